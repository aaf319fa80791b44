use Rattle.bits.specs.Bits.{bit}
use Rattle.propagation.proofs.Bytes.{Lowered}
use Rattle.propagation.proofs.lower.lower.Given as goal

abbrev pub invariant-loop-a : goal.invariant-loop-a
invariant-loop-a l = Lowered l.initial.counts l.counts l.i l.j (bit l.word) l.a
