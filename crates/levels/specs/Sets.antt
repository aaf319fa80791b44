-- A set gives each item some of its options, possibly none.
-- Set: a test at an item and an option
-- Has m s i a: a is an option of item i in the book m, and in the set
-- Inside m s t: each option of s is one of t
-- words ws: the set whose options of item i are the bits of the word at place i
-- Proper m s: the set has no option that the book lacks
use Rattle.std.specs.Prelude.{ℕ, ◌<◌, Bool, T, List, slice_index}
use Rattle.bits.specs.Bits.{bit}
use Rattle.meaning.specs.Meaning.{Meaning}

abbrev pub Set : Type 0
Set = ℕ → ℕ → Bool

abbrev pub Has : Meaning → Set → ℕ → ℕ → Type 0
Has m s i a = (i < m.items) × (a < m.options i) × T (s i a)

abbrev pub Inside : Meaning → Set → Set → Type 0
Inside m s t = (i a : ℕ) → Has m s i a → Has m t i a

abbrev pub words : List ℕ → Set
words ws i a = bit (slice_index ws i) a

abbrev pub Proper : Meaning → Set → Type 0
Proper m s = (i a : ℕ) → i < m.items → T (s i a) → a < m.options i
