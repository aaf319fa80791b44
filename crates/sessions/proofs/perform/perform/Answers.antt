use Rattle.std.proofs.Common.{◌≡◌, ◌+◌, List, [], ◌∷◌, ◌++◌, get_or, take, vec_items, sym, refl, ap, ◌∙◌, subst, arith}
use Rattle.std.proofs.lemmas.List.{take_all, take_more}
use Rattle.meaning.specs.Meaning.{Meaning}
use Rattle.runs.specs.Answers.{Answer}
use Rattle.runs.specs.declared.call.Call.{Call}
use Rattle.runs.specs.declared.call.Call.TheVariants.{Strike}
use Rattle.runs.specs.Runs.{Did}
use Rattle.runs.specs.Screening.{Room}
use Rattle.runs.specs.State.{State, opened}
use Rattle.sessions.specs.Performed.{Steps}
use Rattle.sessions.specs.Said.{room}
use Rattle.sessions.specs.View.{view}
use Rattle.sessions.proofs.Performing.{performs, steps_more, steps_none}
use Rattle.sessions.proofs.perform.perform.Goals as goal

pub loop-call-init : goal.loop-call-init
loop-call-init g c =
    let q : Room = room c.args.counts.now (g.O.WaitingList.waits c.args.options.now) (g.O.WaitingList.room c.args.options.now) (g.I.WaitingList.waits c.args.items.now) (g.I.WaitingList.room c.args.items.now) in
    let m : Meaning = g.B.RuleBook.meaning c.open-session.result.book in
    let v : State = view c.open-session.result in
    let start : v ≡ opened m c.args.asked = c.open-session.ensures.start ∙ ap (λ b. opened (g.B.RuleBook.meaning b) c.args.asked) (sym c.open-session.ensures.same) in
    (refl, subst (λ (rs : List Answer). Steps m (opened m c.args.asked) [] rs q v q) (sym c.in_ok-answers.ensures.items) (steps_none m (opened m c.args.asked) v q start))

pub loop-call-preserved : goal.loop-call-preserved
loop-call-preserved g c =
    let m : Meaning = g.B.RuleBook.meaning c.open-session.result.book in
    let start : State = opened m c.args.asked in
    let q : Room = room c.args.counts.now (g.O.WaitingList.waits c.args.options.now) (g.O.WaitingList.room c.args.options.now) (g.I.WaitingList.waits c.args.items.now) (g.I.WaitingList.room c.args.items.now) in
    let p : Room = room c.loop-call.counts (g.O.WaitingList.waits c.loop-call.options) (g.O.WaitingList.room c.loop-call.options) (g.I.WaitingList.waits c.loop-call.items) (g.I.WaitingList.room c.loop-call.items) in
    let p' : Room = room c.make-answer.new.counts (g.O.WaitingList.waits c.make-answer.new.options) (g.O.WaitingList.room c.make-answer.new.options) (g.I.WaitingList.waits c.make-answer.new.items) (g.I.WaitingList.room c.make-answer.new.items) in
    let x : Call = get_or c.args.calls.now c.loop-call.call-index (Strike 0 0) in
    let more = steps_more m start (take c.loop-call.call-index c.args.calls.now) (vec_items c.loop-call.answers) q (view c.loop-call.session) p c.loop-call.invariant.1 x c.make-answer.result p' (view c.make-answer.new.self)
    (subst (λ b. Did (g.B.RuleBook.meaning b) x p (view c.loop-call.session) c.make-answer.result p' (view c.make-answer.new.self)) c.loop-call.invariant.0 c.make-answer.ensures.did) in
    let next : take (c.loop-call.call-index + 1) c.args.calls.now ≡ take c.loop-call.call-index c.args.calls.now ++ x ∷ [] =
    take_more c.args.calls.now c.loop-call.call-index (Strike 0 0) c.loop-call-test.true in (
      c.make-answer.ensures.same ∙ c.loop-call.invariant.0,
      subst (λ (rs : List Answer). Steps m start (take (c.loop-call.call-index + 1) c.args.calls.now) rs q (view c.make-answer.new.self) p') (sym c.in_ok-push.ensures.items)
          (subst (λ (cs : List Call). Steps m start cs (vec_items c.loop-call.answers ++ c.make-answer.result ∷ []) q (view c.make-answer.new.self) p') (sym next) more),
    )

pub returns : goal.returns
returns g c =
    let m : Meaning = g.B.RuleBook.meaning c.args.book in
    let q : Room = room c.args.counts.now (g.O.WaitingList.waits c.args.options.now) (g.O.WaitingList.room c.args.options.now) (g.I.WaitingList.waits c.args.items.now) (g.I.WaitingList.room c.args.items.now) in
    let q' : Room = room c.loop-call.counts (g.O.WaitingList.waits c.loop-call.options) (g.O.WaitingList.room c.loop-call.options) (g.I.WaitingList.waits c.loop-call.items) (g.I.WaitingList.room c.loop-call.items) in
    let v : State = view c.loop-call.session in
    let rs : List Answer = vec_items c.loop-call.answers in
    let all : take c.loop-call.call-index c.args.calls.now ≡ c.args.calls.now = take_all c.loop-call.call-index c.args.calls.now (omega (arith, c.loop-call-test.false)) in
    let did : Steps m (opened m c.args.asked) (take c.loop-call.call-index c.args.calls.now) rs q v q' =
    subst (λ b. Steps (g.B.RuleBook.meaning b) (opened (g.B.RuleBook.meaning b) c.args.asked) (take c.loop-call.call-index c.args.calls.now) rs q v q') c.open-session.ensures.same c.loop-call.invariant.1 in (
      c.loop-call.invariant.0 ∙ c.open-session.ensures.same,
      performs m c.args.asked c.args.calls.now rs q v q' (subst (λ (cs : List Call). Steps m (opened m c.args.asked) cs rs q v q') all did),
    )
