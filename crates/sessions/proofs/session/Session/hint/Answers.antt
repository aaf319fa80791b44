use Rattle.std.proofs.Common.{◌≡◌, Some, refl, rules}
use Rattle.sessions.proofs.session.Session.hint.Goals as goal

pub returns : goal.returns
returns g c =
    let e : c.args.self.now.marks ≡ Some c.in_ok-marks.marks.now = search rules in
    rw e (refl, c.fewest_kept.ensures)
