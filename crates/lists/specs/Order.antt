-- Both kinds of list hold their elements in the order in which they were put.
-- stack s, queue s: the elements of a newest-first and of an oldest-first list, from the oldest to the newest
-- stack_room s, queue_room s: how many elements there are cells for
use Rattle.std.specs.Prelude.{ℕ, List, length}
use Rattle.bags.specs.Views.{stacked, ringed}
use Rattle.lists.specs.declared.newest.Newest.{Newest}
use Rattle.lists.specs.declared.oldest.Oldest.{Oldest}

abbrev pub stack : {T : Type 0} → Newest T → List T
stack s = stacked s.count s.cells.now

abbrev pub stack_room : {T : Type 0} → Newest T → ℕ
stack_room s = length s.cells.now

abbrev pub queue : {T : Type 0} → Oldest T → List T
queue s = ringed s.head s.count s.cells.now

abbrev pub queue_room : {T : Type 0} → Oldest T → ℕ
queue_room s = length s.cells.now
