use Rattle.std.proofs.Common.{◌≡◌, ℕ, ◌<◌, get_or}
use Rattle.levels.specs.Sets.{words}
use Rattle.levels.specs.Counted.{count_at}
use Rattle.propagation.proofs.screening.Screening.fill_counts.Given as goal

abbrev pub invariant-loop-n : goal.invariant-loop-n
invariant-loop-n g l = (k : ℕ) → k < l.n → get_or l.count-items k 0 ≡ count_at (g.B.RuleBook.meaning l.self.book.now) (words l.set) k
