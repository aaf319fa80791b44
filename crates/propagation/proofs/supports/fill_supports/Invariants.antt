use Rattle.std.proofs.Common.{◌≡◌, length}
use Rattle.propagation.specs.Supports.{SupportsBelow}
use Rattle.propagation.proofs.supports.fill_supports.Given as goal

abbrev pub invariant-loop-n : goal.invariant-loop-n
invariant-loop-n g l = SupportsBelow (g.B.RuleBook.meaning l.book) l.n l.rows × (length l.rows ≡ 32768)
