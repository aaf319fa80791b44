use Rattle.std.proofs.Common.{rules}
use Rattle.bits.proofs.Ranges.{all_below}
use Rattle.books.proofs.grid_check.SizedGrid.links_hold.Goals as goal

pub returns : goal.returns
returns c = all_below c.args.self.now.parts.items _ _ _ _ c.all.ensures.ran (λ x b q k. search rules)
