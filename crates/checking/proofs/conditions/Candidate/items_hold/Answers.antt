use Rattle.std.proofs.Common.{rules}
use Rattle.bits.proofs.Ranges.{all_below}
use Rattle.checking.proofs.conditions.Candidate.items_hold.Goals as goal

pub returns : goal.returns
returns g c = rw (← c.items.ensures) (all_below _ _ _ _ _ c.all.ensures.ran (λ x b q k. search rules))
