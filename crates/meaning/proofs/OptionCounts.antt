-- What right counts say of items and options, in every book made of parts.
use Rattle.std.proofs.Common.{◌≡◌, ℕ, ◌<◌, ◌≤◌, true, List, get_or, inl, inr, arith}
use Rattle.std.proofs.lemmas.Bool.{cases_lt, lt-ltb, le-ltb}
use Rattle.std.proofs.lemmas.Bool.Decides.{nat_tests}
use Rattle.bits.proofs.Belows.{every_at}
use Rattle.meaning.specs.Limits.{count_right, counts_right, options_in}

module _ (n : ℕ) (counts : List ℕ) (ok : counts_right n counts ≡ true) where
  pub counts_at : (i : ℕ) → i < n → (1 ≤ get_or counts i 0) × (get_or counts i 0 ≤ 32)
  counts_at i h = let t = every_at n (count_right counts) ok i h in (grind (arith, nat_tests), grind (arith, nat_tests))

  pub options_least : (i : ℕ) → i < n → 1 ≤ options_in n counts i
  options_least i h = let c = counts_at i h in let t = lt-ltb i n h in grind (arith, nat_tests)

  pub options_most : (i : ℕ) → options_in n counts i ≤ 32
  options_most i =
      elim (cases_lt i n) [
        | inl more ↦ let c = counts_at i more in let t = lt-ltb i n more in grind (arith, nat_tests)
        | inr less ↦ let t = le-ltb i n less in grind (arith, nat_tests)
      ]

  -- an option that is there is one of 32
  pub option_small : (i a : ℕ) → a < options_in n counts i → a < 32
  option_small i a h = let t = options_most i in omega arith

-- and belongs to an item that is there
pub item_there : (n : ℕ) (counts : List ℕ) (i a : ℕ) → a < options_in n counts i → i < n
item_there n counts i a h =
    elim (cases_lt i n) [
      | inl more ↦ more
      | inr less ↦ let t = le-ltb i n less in absurd (grind (arith, nat_tests))
    ]
