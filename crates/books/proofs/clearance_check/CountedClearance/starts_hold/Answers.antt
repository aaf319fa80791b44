use Rattle.std.proofs.Common.{rules}
use Rattle.bits.proofs.Ranges.{all_below}
use Rattle.books.proofs.clearance_check.CountedClearance.starts_hold.Goals as goal

pub returns : goal.returns
returns c = all_below c.args.self.now.clearance.parts.items _ _ _ _ c.all.ensures.ran (λ x b q k. search rules)
