use Rattle.std.proofs.Common.{rules}
use Rattle.std.proofs.iter.Serving.{serving}
use Rattle.bits.proofs.Ranges.{all_below}
use Rattle.meaning.proofs.OptionCounts.{counts_at}
use Rattle.books.proofs.clearance_check.CountedClearance.item_holds.Goals as goal

pub all-requires-clause-callable : goal.all-requires-clause-callable
all-requires-clause-callable c =
    let h = counts_at c.args.self.now.clearance.parts.items c.args.self.now.clearance.parts.counts.now c.args.self.now.counted c.args.i c.requires in grind serving

pub returns : goal.returns
returns c = rw (← c.from-count.ensures) (all_below c.from-count.result _ _ _ _ c.all.ensures.ran (λ x b q k. search rules))
