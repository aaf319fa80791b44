use Rattle.std.proofs.Common.{ℕ, ◌<◌, get_or, arith, rules}
use Rattle.std.proofs.lemmas.Nat.{one_shl}
use Rattle.meaning.proofs.OptionCounts.{counts_at}
use Rattle.books.proofs.grid_check.CountedGrid.row_holds.Goals as goal

pub overflow_shl-result : goal.overflow_shl-result
overflow_shl-result c = omega (arith, counts_at c.args.self.now.grid.parts.items c.args.self.now.grid.parts.counts.now c.args.self.now.counted c.args.j c.requires.within)

pub returns-then-a-from : goal.returns-then-a-from
returns-then-a-from c =
    let n : ℕ = get_or c.args.self.now.grid.parts.counts.now c.args.j 0 in
    let k : n < 64 = omega (arith, counts_at c.args.self.now.grid.parts.items c.args.self.now.grid.parts.counts.now c.args.self.now.counted c.args.j c.requires.within) in
    let e = one_shl n 64 k in search rules
