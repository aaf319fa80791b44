use Rattle.std.proofs.Common.{rules}
use Rattle.bits.proofs.Ranges.{all_below}
use Rattle.meaning.specs.Pairs.{pairs_for}
use Rattle.books.proofs.clearance_check.SizedClearance.gaps_hold.Goals as goal

pub returns : goal.returns
returns c = all_below (pairs_for c.args.self.now.parts.items) _ _ _ _ c.all.ensures.ran (λ x b q k. search rules)
