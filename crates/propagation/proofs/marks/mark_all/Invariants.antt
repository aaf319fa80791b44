use Rattle.std.proofs.Common.{◌≡◌, ℕ, ◌<◌, T}
use Rattle.bits.specs.Bits.{bit}
use Rattle.propagation.specs.Lists.{Marks}
use Rattle.propagation.proofs.marks.mark_all.Given as goal

abbrev pub invariant-loop-i : goal.invariant-loop-i
invariant-loop-i g l =
    Marks l.n (bit l.marked) (g.I.WaitingList.waits l.items) (g.I.WaitingList.room l.items)
    × ((x : ℕ) → x < l.i → T (bit l.marked x))
    × (g.I.WaitingList.room l.items ≡ g.I.WaitingList.room l.initial.items)
