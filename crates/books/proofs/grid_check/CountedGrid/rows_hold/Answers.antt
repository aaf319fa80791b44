use Rattle.std.proofs.Common.{rules}
use Rattle.bits.proofs.Ranges.{all_below}
use Rattle.books.proofs.grid_check.CountedGrid.rows_hold.Goals as goal

pub returns : goal.returns
returns c = all_below c.args.self.now.grid.parts.items _ _ _ _ c.all.ensures.ran (λ x b q k. search rules)
