use Rattle.bits.specs.Bits.{bit}
use Rattle.propagation.proofs.Rows.{Bits}
use Rattle.propagation.proofs.supports.support_word.Given as goal

abbrev pub invariant-loop-w : goal.invariant-loop-w
invariant-loop-w g l = Bits ((g.B.RuleBook.meaning l.book).together l.i l.a l.k) (bit l.word) l.w
