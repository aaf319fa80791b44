use Rattle.levels.proofs.Theories.{counts_theory}
use Rattle.levels.proofs.theory.counts_stand.Goals as goal

pub returns : goal.returns
returns c = counts_theory
