use Rattle.std.proofs.Common.{◌≡◌, true, false, Some, Ok, Err, Result, refl, subst, rules}
use Rattle.meaning.specs.declared.refusal.Refusal.{Refusal}
use Rattle.levels.specs.Sets.{words}
use Rattle.levels.specs.declared.level.Level.{Level}
use Rattle.runs.specs.Screening.{Room, Screens, roomy}
use Rattle.sessions.specs.Said.{at, room}
use Rattle.sessions.proofs.Screens.{screen_admitted}
use Rattle.sessions.proofs.session.Session.screen.Goals as goal

pub returns-in_err-settled-clause-did : goal.returns-in_err-settled-clause-did
returns-in_err-settled-clause-did g c =
    let m = g.B.RuleBook.meaning c.args.self.now.book in
    let q : Room = room c.args.counts.now (g.O.WaitingList.waits c.args.options.now) (g.O.WaitingList.room c.args.options.now) (g.I.WaitingList.waits c.args.items.now) (g.I.WaitingList.room c.args.items.now) in
    let e : c.args.self.now.marks ≡ Some c.in_ok-marks.marks.now = search rules in
    let roomy-now : roomy m q ≡ true = search rules in
    let q' : Room = room c.settle.new.counts (g.O.WaitingList.waits c.settle.new.options) (g.O.WaitingList.room c.settle.new.options) (g.I.WaitingList.waits c.settle.new.items) (g.I.WaitingList.room c.settle.new.items) in
    let admits = screen_admitted m false c.args.level q c.in_ok-level.level refl (search rules) roomy-now in
    let t = words c.in_ok-marks.marks.now.struck in
    let k = words c.in_ok-marks.marks.now.kept in
    let refusal : Refusal = c.in_err-settled.field-0.0 in
    let says : c.from_residual-in_err-settled.result ≡ Err refusal = search rules in
    let found = c.in_err-settled.ensures in
    rw (e, says) (subst (λ (d : Result Level Refusal). Screens d m q (at false t k) (Err refusal) q' (at false t k)) admits (found.0, found.1, found.2 false k))

pub returns-clause-did : goal.returns-clause-did
returns-clause-did g c =
    let m = g.B.RuleBook.meaning c.args.self.now.book in
    let q : Room = room c.args.counts.now (g.O.WaitingList.waits c.args.options.now) (g.O.WaitingList.room c.args.options.now) (g.I.WaitingList.waits c.args.items.now) (g.I.WaitingList.room c.args.items.now) in
    let q' : Room = room c.settle.new.counts (g.O.WaitingList.waits c.settle.new.options) (g.O.WaitingList.room c.settle.new.options) (g.I.WaitingList.waits c.settle.new.items) (g.I.WaitingList.room c.settle.new.items) in
    let e : c.args.self.now.marks ≡ Some c.in_ok-marks.marks.now = search rules in
    let roomy-now : roomy m q ≡ true = search rules in
    let admits = screen_admitted m false c.args.level q c.in_ok-level.level refl (search rules) roomy-now in
    let t = words c.in_ok-marks.marks.now.struck in
    let k = words c.in_ok-marks.marks.now.kept in
    let s = c.in_ok-settled.settled in
    rw e (subst (λ (d : Result Level Refusal). Screens d m q (at false t k) (Ok (Some s.outcome)) q' (at false t (words s.words))) admits (c.in_ok-settled.ensures false k))
