use Rattle.std.proofs.Common.{rules}
use Rattle.bits.proofs.Ranges.{all_below}
use Rattle.books.proofs.joint.same_counts.Goals as goal

pub returns : goal.returns
returns g c = all_below c.args.n _ _ _ _ c.all.ensures.ran (λ x b q k. search rules)
