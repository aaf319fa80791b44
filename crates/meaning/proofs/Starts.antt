-- The table of starts has the rule of its definition, and pair numbers and row words stand within their bounds.
use Rattle.std.proofs.Common.{◌≡◌, ℕ, zero, suc, ◌+◌, ◌-◌, ◌*◌, ◌<◌, ◌≤◌, eqb, leb, List, [], ◌∷◌, get_or, refl, inl, inr, suc-mul, mul-suc, sub-one, arith}
use Rattle.std.proofs.lemmas.Bool.{eqb-true, leb-true, cases_lt}
use Rattle.bits.specs.Below.{every}
use Rattle.bits.proofs.Belows.{every_at}
use Rattle.meaning.specs.Pairs.{start, pair, pairs_for}
use Rattle.meaning.specs.Grid.{rows_for}

abbrev pub starts : List ℕ
starts = 0 ∷ 0 ∷ 1 ∷ 3 ∷ 6 ∷ 10 ∷ 15 ∷ 21 ∷ 28 ∷ 36 ∷ 45 ∷ 55 ∷ 66 ∷ 78 ∷ 91 ∷ 105 ∷ 120 ∷ 136 ∷ 153 ∷ 171 ∷ 190 ∷ 210 ∷ 231 ∷ 253 ∷ 276 ∷ 300 ∷ 325 ∷ 351 ∷ 378 ∷ 406 ∷ 435 ∷ 465 ∷ []

pub starts_right : (j : ℕ) → j < 32 → get_or starts j 0 ≡ start j
unfolding every start
starts_right j h = eqb-true (get_or starts j 0) (start j) (every_at 32 (λ k. eqb (get_or starts k 0) (start k)) refl j h)

pub start_most : (j : ℕ) → j < 32 → start j ≤ 465
unfolding every start
start_most j h = leb-true (start j) 465 (every_at 32 (λ k. leb (start k) 465) refl j h)

-- the same numbers, by adding
abbrev tri : ℕ → ℕ
tri zero = 0
tri (suc j) = tri j + j

square : (j : ℕ) → 2 * tri j + j ≡ j * j
square zero = refl
square (suc j) = omega (arith, square j, mul-suc (suc j) j, suc-mul j j)

product : (j : ℕ) → j * (j - 1) ≡ 2 * tri j
product zero = refl
product (suc j) = rw sub-one (omega (arith, square j, suc-mul j j))

start_tri : (j : ℕ) → start j ≡ tri j
unfolding start
start_tri j = omega (arith, product j)

tri_up : (i j : ℕ) → i ≤ j → tri i ≤ tri j
tri_up i zero h = let e : i ≡ 0 = omega arith in rw e (omega arith)
tri_up i (suc j) h =
    elim (cases_lt j i) [
      | inl more ↦ let e : i ≡ suc j = omega arith in rw e (omega arith)
      | inr less ↦ omega (arith, tri_up i j less)
    ]

-- the 32 row words of a pair of n items lie within the rows of n items
pub pair_within : (n j i : ℕ) → j < n → i < j → 32 * pair i j + 32 ≤ rows_for n
pair_within n j i h k =
    omega (arith, start_tri j, product n, tri_up (suc j) n h)

pub pair_below : (n j i : ℕ) → j < n → i < j → pair i j < pairs_for n
pair_below n j i h k = omega (arith, pair_within n j i h k)
