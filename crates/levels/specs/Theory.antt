-- What screening rests on, for a condition C over a book m. It holds of every partner count, hence of the three levels.
-- monotone: what an option meets in a set it meets in every larger one
-- failing_out: an option that fails in a set is in no closed set inside it
-- exists, unique: inside every start there is one largest closed set
-- near: whether an option of i meets the condition depends only on the items linked with i
-- IsCount l c: over lawful books, level l asks exactly what the partner count c asks
use Rattle.std.specs.Prelude.{◌≡◌, ℕ, ◌↔◌}
use Rattle.meaning.specs.Meaning.{Meaning, Lawful}
use Rattle.levels.specs.Sets.{Set, Has, Inside}
use Rattle.levels.specs.Levels.{Condition, Linked, Meets, level_on}
use Rattle.levels.specs.Counts.{count_on}
use Rattle.levels.specs.Closed.{Closed, LargestClosed}
use Rattle.levels.specs.declared.level.Level.{Level}

-- s and t have the same options on the items linked with i
abbrev pub SameNear : Meaning → ℕ → Set → Set → Type 0
SameNear m i s t = (j b : ℕ) → Linked m i j → s j b ≡ t j b

pub record Theory (C : Condition) (m : Meaning) : Type 0 where
  pub monotone : (s t : Set) → Inside m s t → (i a : ℕ) → Meets C m s i a → Meets C m t i a
  pub failing_out : (s t : Set) → Inside m s t → Closed C m s → (i a : ℕ) → (Meets C m t i a → ⊥) → Has m s i a → ⊥
  pub exists : (u : Set) → (k : Set) × LargestClosed C m u k
  pub unique : (u k l : Set) → LargestClosed C m u k → LargestClosed C m u l → Inside m k l
  pub near : (s t : Set) (i a : ℕ) → SameNear m i s t → Meets C m s i a → Meets C m t i a

abbrev pub CountsTheory : Type 0
CountsTheory = (c : ℕ) (m : Meaning) → Theory (count_on c) m

abbrev pub LevelsTheory : Type 0
LevelsTheory = (l : Level) (m : Meaning) → Lawful m → Theory (level_on l) m

abbrev pub IsCount : Level → ℕ → Type 0
IsCount l c = (m : Meaning) → Lawful m → (s : Set) (i a j : ℕ) → Linked m i j → level_on l m s i a j ↔ count_on c m s i a j
