-- The support counts that a screening leaves: one byte for each item i, option a of it, and item j.
-- place i a j: where that byte stands
-- byte bytes i a j: that byte
-- used m s n: byte n is that of an option of the set s and a linked item; count_at m s n: the count that byte n is for, 0 where it is of none
-- Counted m s bytes: the byte is the number of partners that a has on j, for each option a of i in the set s and each linked j, and at every other place it is 0
-- CountsFixed: that fixes all of the first 1024 bytes for each item
use Rattle.std.specs.Prelude.{◌≡◌, ℕ, ◌+◌, ◌*◌, ◌/◌, ◌%◌, ◌<◌, Bool, ◌&&◌, List, slice_index, if◌then◌else◌}
use Rattle.meaning.specs.Meaning.{Meaning}
use Rattle.levels.specs.Sets.{Set, Has}
use Rattle.levels.specs.Levels.{Linked}
use Rattle.levels.specs.Counts.{partners}

abbrev pub place : ℕ → ℕ → ℕ → ℕ
place i a j = 1024 * i + 32 * a + j

abbrev pub byte : List ℕ → ℕ → ℕ → ℕ → ℕ
byte bytes i a j = slice_index bytes (place i a j)

abbrev pub used : Meaning → Set → ℕ → Bool
used m s n = s (n / 1024) (n / 32 % 32) && m.linked (n / 1024) (n % 32)

abbrev pub count_at : Meaning → Set → ℕ → ℕ
count_at m s n = if used m s n then partners m s (n / 1024) (n / 32 % 32) (n % 32) else 0

pub record Counted (m : Meaning) (s : Set) (bytes : List ℕ) : Type 0 where
  pub support : (i a j : ℕ) → Has m s i a → Linked m i j → byte bytes i a j ≡ partners m s i a j
  pub else_none : (i a j : ℕ) → i < m.items → a < 32 → j < 32 → (Has m s i a → Linked m i j → ⊥) → byte bytes i a j ≡ 0

abbrev pub CountsFixed : Type 0
CountsFixed = (m : Meaning) (s : Set) (x y : List ℕ) → Counted m s x → Counted m s y → (n : ℕ) → n < 1024 * m.items → slice_index x n ≡ slice_index y n
