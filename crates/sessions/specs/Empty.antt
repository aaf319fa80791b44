-- The lowest item of which a set has no option.
-- LowestEmpty m s i: item i is that item
-- Empties m s r: r is that item, or none where every item has an option in the set
use Rattle.std.specs.Prelude.{ℕ, ◌<◌, Some, None, Option}
use Rattle.meaning.specs.Meaning.{Meaning}
use Rattle.levels.specs.Sets.{Set, Has}
use Rattle.levels.specs.Closed.{NoneEmpty}

pub record LowestEmpty (m : Meaning) (s : Set) (i : ℕ) : Type 0 where
  pub there : i < m.items
  pub empty : (a : ℕ) → Has m s i a → ⊥
  pub lowest : (j : ℕ) → j < i → (a : ℕ) × Has m s j a

abbrev pub Empties : Meaning → Set → Option ℕ → Type 0
Empties m s (Some i) = LowestEmpty m s i
Empties m s None = NoneEmpty m s
