use Rattle.levels.proofs.Theories.{levels_theory}
use Rattle.levels.proofs.theory.levels_stand.Goals as goal

pub returns : goal.returns
returns c = levels_theory
