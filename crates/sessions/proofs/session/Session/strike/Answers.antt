use Rattle.std.proofs.Common.{◌≡◌, Some, Ok, rules}
use Rattle.runs.specs.Edits.{strike_due}
use Rattle.runs.specs.State.{State}
use Rattle.sessions.specs.View.{shown}
use Rattle.sessions.proofs.EditLaws.{strikes_one}
use Rattle.sessions.proofs.session.Session.strike.Goals as goal

pub returns-clause-did : goal.returns-clause-did
returns-clause-did g c =
    let m = g.B.RuleBook.meaning c.args.self.now.book in
    let e : c.args.self.now.marks ≡ Some c.in-Some.marks = search rules in
    let v : State = shown (Some c.in-Some.marks) in
    let due : strike_due m v c.args.i c.args.a ≡ Ok tt = search rules in
    rw e (strikes_one m (g.B.RuleBook.lawful c.args.self.now.book) v c.args.i c.args.a c.one_option.result c.one_option.ensures due _ _ c.strike.ensures.struck c.strike.ensures.kept)
