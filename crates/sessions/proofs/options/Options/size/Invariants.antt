use Rattle.std.proofs.Common.{◌≡◌, ◌*◌, ◌≤◌}
use Rattle.bits.specs.Below.{count}
use Rattle.levels.specs.Sets.{words}
use Rattle.levels.specs.Size.{sum}
use Rattle.sessions.proofs.options.Options.size.Given as goal

abbrev pub invariant-loop-i : goal.invariant-loop-i
invariant-loop-i g l =
    (l.total ≡ sum l.i (λ i. count ((g.B.RuleBook.meaning l.self.book.now).options i) (words l.self.set.now i))) × (l.total ≤ 32 * l.i)
