use Rattle.std.proofs.Common.{rules}
use Rattle.bits.proofs.Ranges.{any_below}
use Rattle.checking.proofs.conditions.Candidate.has_path_partner.Goals as goal

pub returns : goal.returns
returns g c = rw (← c.options.ensures) (any_below _ _ _ _ _ c.any.ensures.ran (λ x b q k. search rules))
