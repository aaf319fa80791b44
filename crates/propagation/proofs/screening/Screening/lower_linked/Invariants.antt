use Rattle.std.proofs.Common.{◌&&◌}
use Rattle.levels.specs.Sets.{words}
use Rattle.propagation.proofs.Bytes.{LoweredAll}
use Rattle.propagation.proofs.screening.Screening.lower_linked.Given as goal

abbrev pub invariant-loop-i : goal.invariant-loop-i
invariant-loop-i g l =
    LoweredAll (g.B.RuleBook.meaning l.self.book.now) l.initial.counts l.counts l.j (λ i a. words l.kept i a && (g.B.RuleBook.meaning l.self.book.now).together i a l.j l.b) l.i
