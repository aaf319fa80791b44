-- A table of words that holds what the book says of linked items, so that each pair of options is asked for once.
-- SupportsBelow m n rows: among the first n words, bit w of the word at place i a k says whether option w of k stands with a of i, where k is linked with i
-- Supports m rows: so it does in all the words of the book's items
use Rattle.std.specs.Prelude.{◌≡◌, ℕ, ◌*◌, ◌<◌, List, slice_index}
use Rattle.bits.specs.Bits.{bit}
use Rattle.meaning.specs.Meaning.{Meaning}
use Rattle.levels.specs.Levels.{Linked}
use Rattle.levels.specs.Counted.{place}

abbrev pub SupportsBelow : Meaning → ℕ → List ℕ → Type 0
SupportsBelow m n rows = (i a k w : ℕ) → i < m.items → a < 32 → Linked m i k → place i a k < n → bit (slice_index rows (place i a k)) w ≡ m.together i a k w

abbrev pub Supports : Meaning → List ℕ → Type 0
Supports m rows = SupportsBelow m (1024 * m.items) rows
