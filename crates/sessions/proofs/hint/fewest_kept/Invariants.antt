use Rattle.std.proofs.Common.{Some}
use Rattle.sessions.specs.View.{shown}
use Rattle.sessions.proofs.Leads.{Leads}
use Rattle.sessions.proofs.hint.fewest_kept.Given as goal

abbrev pub invariant-loop-i : goal.invariant-loop-i
invariant-loop-i g l = Leads (g.B.RuleBook.meaning l.book) (shown (Some l.marks)) l.i l.best
