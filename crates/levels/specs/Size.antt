-- How many options a set has.
-- sum n f: the sum of f over the numbers below n
-- size m s: the number of options of the set s that the book m has
use Rattle.std.specs.Prelude.{ℕ, zero, suc, ◌+◌}
use Rattle.bits.specs.Below.{count}
use Rattle.meaning.specs.Meaning.{Meaning}
use Rattle.levels.specs.Sets.{Set}

abbrev pub sum : ℕ → (ℕ → ℕ) → ℕ
sum zero f = 0
sum (suc n) f = f n + sum n f

abbrev pub size : Meaning → Set → ℕ
size m s = sum m.items (λ i. count (m.options i) (s i))
