use Rattle.std.proofs.Common.{◌≡◌}
use Rattle.bags.specs.Bags.{none}
use Rattle.propagation.specs.State.{Invariant, Narrowed, Past, work}
use Rattle.propagation.proofs.screening.Screening.settle.Given as goal

abbrev pub invariant-loop-x : goal.invariant-loop-x
invariant-loop-x g l =
    Invariant l.self.c (g.B.RuleBook.meaning l.self.book.now) l.domains l.counts (g.O.WaitingList.waits l.options) (g.O.WaitingList.room l.options) (g.I.WaitingList.waits l.items) (g.I.WaitingList.room l.items)
    × (g.O.WaitingList.waits l.options ≡ none)
    × Narrowed l.self.c (g.B.RuleBook.meaning l.self.book.now) l.initial.domains l.domains
    × (g.O.WaitingList.room l.options ≡ g.O.WaitingList.room l.initial.options)
    × (g.I.WaitingList.room l.items ≡ g.I.WaitingList.room l.initial.items)
    × Past (g.B.RuleBook.meaning l.self.book.now) l.initial.counts l.counts

abbrev pub decreases-loop-x : goal.decreases-loop-x
decreases-loop-x g l = work (g.B.RuleBook.meaning l.self.book.now) l.domains (g.I.WaitingList.waits l.items)
