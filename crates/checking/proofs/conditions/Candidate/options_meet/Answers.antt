use Rattle.std.proofs.Common.{rules}
use Rattle.bits.proofs.Ranges.{all_below}
use Rattle.checking.proofs.conditions.Candidate.options_meet.Goals as goal

pub returns : goal.returns
returns g c = rw (← c.options.ensures) (all_below _ _ _ _ _ c.all.ensures.ran (λ x b q k. search rules))
