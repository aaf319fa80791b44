-- The theory holds of every partner count, and of every condition that asks the same as one, hence of the levels.
use Rattle.std.proofs.Common.{ℕ, ◌↔◌}
use Rattle.meaning.specs.Meaning.{Meaning}
use Rattle.levels.specs.Sets.{Set}
use Rattle.levels.specs.Levels.{Condition, Linked, Meets, level_on}
use Rattle.levels.specs.Counts.{count_on, count_of}
use Rattle.levels.specs.Closed.{LargestClosed}
use Rattle.levels.specs.Theory.{Theory, CountsTheory, LevelsTheory}
use Rattle.levels.proofs.Exists.{largest_exists, largest_unique}
use Rattle.levels.proofs.IsCount.{level_count}
use Rattle.levels.proofs.Mono.{Monotone, counts_monotone, counts_near, failing_out}

pub counts_theory : CountsTheory
counts_theory c m = record {
  monotone = counts_monotone c m;
  failing_out = failing_out (count_on c) m (counts_monotone c m);
  exists = largest_exists c m;
  unique = largest_unique (count_on c) m;
  near = counts_near c m;
}

-- C asks on linked items what D asks
module _ (C D : Condition) (m : Meaning) (same : (s : Set) (i a j : ℕ) → Linked m i j → C m s i a j ↔ D m s i a j) where
  meets_to : (s : Set) (i a : ℕ) → Meets C m s i a → Meets D m s i a
  meets_to s i a h j l = (same s i a j l).0 (h j l)

  meets_from : (s : Set) (i a : ℕ) → Meets D m s i a → Meets C m s i a
  meets_from s i a h j l = (same s i a j l).1 (h j l)

  pub largest_from : (u k : Set) → LargestClosed D m u k → LargestClosed C m u k
  largest_from u k h = record {
    inside = h.inside;
    closed = λ i a x. meets_from k i a (h.closed i a x);
    largest = λ s su cs. h.largest s su (λ i a x. meets_to s i a (cs i a x));
  }

  monotone_from : Monotone D m → Monotone C m
  monotone_from mono s t st i a h = meets_from t i a (mono s t st i a (meets_to s i a h))

  theory_from : Theory D m → Theory C m
  theory_from th = record {
    monotone = monotone_from th.monotone;
    failing_out = failing_out C m (monotone_from th.monotone);
    exists = λ u. let r = th.exists u in (r.0, largest_from u r.0 r.1);
    unique = largest_unique C m;
    near = λ s t i a near h. meets_from t i a (th.near s t i a near (meets_to s i a h));
  }

pub levels_theory : LevelsTheory
levels_theory l m lawful =
    theory_from (level_on l) (count_on (count_of l)) m (level_count l m lawful) (counts_theory (count_of l) m)
