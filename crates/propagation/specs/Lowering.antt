-- The support counts that lose a partner when option b of item j is crossed out.
-- PartnersLeft m kept j b bytes: where b of j is a partner of a kept option, the count on j is not 0 yet
-- Lowers m kept j b old new: there the count on j is one less, and the other counts on j are as they were
-- SameElse m j old new: whatever is no count on j is as it was
use Rattle.std.specs.Prelude.{◌≡◌, ℕ, ◌-◌, ◌<◌, ◌≤◌, ◌&&◌, T, ◌≢◌, List, slice_index}
use Rattle.bits.specs.Below.{one_if}
use Rattle.meaning.specs.Meaning.{Meaning}
use Rattle.levels.specs.Sets.{Set}
use Rattle.levels.specs.Counted.{place, byte}

abbrev pub PartnersLeft : Meaning → Set → ℕ → ℕ → List ℕ → Type 0
PartnersLeft m kept j b bytes = (i a : ℕ) → i < m.items → a < 32 → T (m.linked i j) → T (kept i a && m.together i a j b) → 1 ≤ byte bytes i a j

abbrev pub Lowers : Meaning → Set → ℕ → ℕ → List ℕ → List ℕ → Type 0
Lowers m kept j b old new = (i a : ℕ) → i < m.items → a < 32 → byte new i a j ≡ byte old i a j - one_if (m.linked i j && (kept i a && m.together i a j b))

abbrev pub SameElse : Meaning → ℕ → List ℕ → List ℕ → Type 0
SameElse m j old new = (k : ℕ) → ((i a : ℕ) → i < m.items → a < 32 → k ≢ place i a j) → slice_index new k ≡ slice_index old k
