use Rattle.std.proofs.Common.{rules}
use Rattle.checking.proofs.Searches.{first_below}
use Rattle.checking.proofs.conditions.Candidate.first_failure.Goals as goal

pub returns : goal.returns
returns g c = rw (← c.items.ensures) (first_below _ _ _ _ _ c.find.ensures.ran (λ x b q k. search rules))
