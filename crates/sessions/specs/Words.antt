-- What a word of options makes of a set.
-- with_word, without_word: a set with the options of item i that the word w has, or without them
use Rattle.std.specs.Prelude.{ℕ, not, ◌&&◌, ◌||◌, ◌==◌}
use Rattle.bits.specs.Bits.{bit}
use Rattle.levels.specs.Sets.{Set}

abbrev pub with_word : Set → ℕ → ℕ → Set
with_word s i w j b = s j b || (i == j && bit w b)

abbrev pub without_word : Set → ℕ → ℕ → Set
without_word s i w j b = s j b && not (i == j && bit w b)
