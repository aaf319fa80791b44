use Rattle.std.proofs.Common.{◌≡◌, ℕ, ◌<◌, ◌≤◌, get_or}
use Rattle.std.specs.Prelude.{if◌then◌else◌}
use Rattle.levels.specs.Sets.{words}
use Rattle.levels.specs.Counted.{used}
use Rattle.propagation.proofs.counts.clear_rest.Given as goal

abbrev pub invariant-loop-n : goal.invariant-loop-n
invariant-loop-n g l =
    ((k : ℕ) → k < l.n → get_or l.count-items k 0 ≡ (if used (g.B.RuleBook.meaning l.book) (words l.set) k then get_or l.initial.count-items k 0 else 0))
    × ((k : ℕ) → l.n ≤ k → get_or l.count-items k 0 ≡ get_or l.initial.count-items k 0)
