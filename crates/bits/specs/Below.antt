-- Tests of the numbers below a bound. The definitions of rule books and levels are written with these words.
-- every n p: each number below n passes the test p
-- some n p: at least one number below n passes it
-- count n p: how many numbers below n pass it
-- if_then a b: b passes wherever a does
use Rattle.std.specs.Prelude.{Bool, true, false, ◌&&◌, ◌||◌, ℕ, zero, suc, ◌+◌}

unfoldable pub every : ℕ → (ℕ → Bool) → Bool
every zero p = true
every (suc n) p = p n && every n p

unfoldable pub some : ℕ → (ℕ → Bool) → Bool
some zero p = false
some (suc n) p = p n || some n p

abbrev pub one_if : Bool → ℕ
one_if true = 1
one_if false = 0

unfoldable pub count : ℕ → (ℕ → Bool) → ℕ
count zero p = 0
count (suc n) p = one_if (p n) + count n p

abbrev pub if_then : Bool → Bool → Bool
if_then true b = b
if_then false b = true
