use Rattle.std.proofs.Common.{◌≡◌, ℕ, ◌+◌, ◌<◌, ◌≤◌, T}
use Rattle.bags.specs.Bags.{size}
use Rattle.bits.specs.Bits.{bit}
use Rattle.propagation.specs.Lists.{Marks}
use Rattle.propagation.proofs.marks.mark_linked.Given as goal

abbrev pub invariant-loop-i : goal.invariant-loop-i
invariant-loop-i g l =
    Marks (g.B.RuleBook.meaning l.book).items (bit l.marked) (g.I.WaitingList.waits l.items) (g.I.WaitingList.room l.items)
    × ((x : ℕ) → x < l.i → T ((g.B.RuleBook.meaning l.book).linked x l.j) → T (bit l.marked x))
    × ((x : ℕ) → T (bit l.initial.marked x) → T (bit l.marked x))
    × (size (g.I.WaitingList.waits l.items) ≤ size (g.I.WaitingList.waits l.initial.items) + l.i)
    × (g.I.WaitingList.room l.items ≡ g.I.WaitingList.room l.initial.items)
