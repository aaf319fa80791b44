use Rattle.std.proofs.Common.{◌≡◌, take, vec_items}
use Rattle.runs.specs.State.{opened}
use Rattle.sessions.specs.Performed.{Steps}
use Rattle.sessions.specs.Said.{room}
use Rattle.sessions.specs.View.{view}
use Rattle.sessions.proofs.perform.perform.Given as goal

abbrev pub invariant-loop-call : goal.invariant-loop-call
invariant-loop-call g l =
    (l.session.book ≡ l.initial.session.book)
    × Steps (g.B.RuleBook.meaning l.initial.session.book) (opened (g.B.RuleBook.meaning l.initial.session.book) l.asked) (take l.call-index l.calls) (vec_items l.answers)
    (room l.initial.counts (g.O.WaitingList.waits l.initial.options) (g.O.WaitingList.room l.initial.options) (g.I.WaitingList.waits l.initial.items) (g.I.WaitingList.room l.initial.items))
    (view l.session)
    (room l.counts (g.O.WaitingList.waits l.options) (g.O.WaitingList.room l.options) (g.I.WaitingList.waits l.items) (g.I.WaitingList.room l.items))
