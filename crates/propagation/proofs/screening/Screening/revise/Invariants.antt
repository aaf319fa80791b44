use Rattle.std.proofs.Common.{◌≡◌}
use Rattle.propagation.proofs.Revising.{Revising}
use Rattle.propagation.proofs.screening.Screening.revise.Given as goal

abbrev pub invariant-loop-a : goal.invariant-loop-a
invariant-loop-a g l =
    Revising l.self.c (g.B.RuleBook.meaning l.self.book.now) l.initial.domains l.domains l.counts (g.O.WaitingList.waits l.options) (g.O.WaitingList.room l.options) l.i l.a
    × (l.domains.seen ≡ l.initial.domains.seen)
    × (l.domains.marked ≡ l.initial.domains.marked)
    × (g.O.WaitingList.room l.options ≡ g.O.WaitingList.room l.initial.options)
