-- Crossing out options that fail, each at its turn, leaves the largest closed set if what is left is closed.
-- without s i a: s with option a of item i crossed out; crossed: with a list of options crossed out
-- Fails: each option of the list fails in what the earlier crossings leave; all_fail: the same as a test for a partner count
use Rattle.std.proofs.Common.{◌≡◌, ℕ, Bool, true, false, not, ◌&&◌, T, eqb, ◌≢◌, List, [], ◌∷◌, sym, refl, ap, ◌∙◌, subst₂, eqb→eq}
use lib.Dec.{eqb_refl}
use Rattle.bits.proofs.Tests.{and_l, and_r, and_i, not_e, not_i, eqb_no}
use Rattle.meaning.specs.Meaning.{Meaning}
use Rattle.levels.specs.Sets.{Set, Inside}
use Rattle.levels.specs.Levels.{Condition, Meets}
use Rattle.levels.specs.Counts.{count_on}
use Rattle.levels.specs.Closed.{Closed, LargestClosed}
use Rattle.levels.specs.Tests.{meets_test, closed_test}
use Rattle.levels.proofs.Decide.{meets_dec, closed_e}
use Rattle.levels.proofs.Mono.{Monotone, counts_monotone, failing_out}

abbrev pub is_same : ℕ → ℕ → ℕ → ℕ → Bool
is_same i a j b = eqb i j && eqb a b

abbrev pub without : Set → ℕ → ℕ → Set
without s i a j b = s j b && not (is_same i a j b)

abbrev pub crossed : Set → List (ℕ × ℕ) → Set
crossed s [] = s
crossed s (x ∷ xs) = crossed (without s x.0 x.1) xs

abbrev pub Fails : Condition → Meaning → Set → List (ℕ × ℕ) → Type 0
Fails C m s [] = Unit {0}
Fails C m s (x ∷ xs) = (Meets C m s x.0 x.1 → ⊥) × Fails C m (without s x.0 x.1) xs

pub without_inside : (m : Meaning) (s : Set) (i a : ℕ) → Inside m (without s i a) s
without_inside m s i a j b h = (h.0, h.1, and_l (s j b) (not (is_same i a j b)) h.2)

pub same_e : (i a j b : ℕ) → T (is_same i a j b) → (i ≡ j) × (a ≡ b)
same_e i a j b t = (eqb→eq i j (and_l (eqb i j) (eqb a b) t), eqb→eq a b (and_r (eqb i j) (eqb a b) t))

pub same_self : (i a : ℕ) → T (is_same i a i a)
same_self i a = and_i (eqb i i) (eqb a a) (eqb_refl i) (eqb_refl a)

and_not_no : (x : Bool) → (x && not false) ≡ x
and_not_no true = refl
and_not_no false = refl

-- the options of other items stay
pub without_else : (s : Set) (i a j b : ℕ) → j ≢ i → without s i a j b ≡ s j b
without_else s i a j b ne = ap (λ (z : Bool). s j b && not (z && eqb a b)) (eqb_no i j (λ e. ne (sym e))) ∙ and_not_no (s j b)

pub crossed_inside : (m : Meaning) (s : Set) (xs : List (ℕ × ℕ)) → Inside m (crossed s xs) s
crossed_inside m s [] i a h = h
crossed_inside m s (x ∷ xs) i a h = without_inside m s x.0 x.1 i a (crossed_inside m (without s x.0 x.1) xs i a h)

module _ (C : Condition) (m : Meaning) (mono : Monotone C m) (s : Set) (cs : Closed C m s) where
  -- a closed set stays inside when what fails is crossed out
  pub crossing_keeps : (t : Set) (i a : ℕ) → Inside m s t → (Meets C m t i a → ⊥) → Inside m s (without t i a)
  crossing_keeps t i a st fails j b h = (
    h.0,
    h.1,
    and_i (t j b) (not (is_same i a j b)) (st j b h).2 (not_i (is_same i a j b) (λ e.
        let i≡j = eqb→eq i j (and_l (eqb i j) (eqb a b) e) in
        let a≡b = eqb→eq a b (and_r (eqb i j) (eqb a b) e) in
        failing_out C m mono s t st cs j b (subst₂ (λ (x y : ℕ). Meets C m t x y → ⊥) i≡j a≡b fails) h)),
  )

  pub crossings_keep : (t : Set) (xs : List (ℕ × ℕ)) → Inside m s t → Fails C m t xs → Inside m s (crossed t xs)
  crossings_keep t [] st f = st
  crossings_keep t (x ∷ xs) st f =
      crossings_keep (without t x.0 x.1) xs (crossing_keeps t x.0 x.1 st f.0) f.1

pub crossings_largest : (C : Condition) (m : Meaning) → Monotone C m → (u : Set) (xs : List (ℕ × ℕ))
    → Fails C m u xs → Closed C m (crossed u xs) → LargestClosed C m u (crossed u xs)
crossings_largest C m mono u xs f c =
    record { inside = crossed_inside m u xs; closed = c; largest = λ s su cs. crossings_keep C m mono s cs u xs su f }

abbrev pub all_fail : ℕ → Meaning → Set → List (ℕ × ℕ) → Bool
all_fail c m s [] = true
all_fail c m s (x ∷ xs) = not (meets_test c m s x.0 x.1) && all_fail c m (without s x.0 x.1) xs

fails_e : (c : ℕ) (m : Meaning) (s : Set) (xs : List (ℕ × ℕ)) → T (all_fail c m s xs) → Fails (count_on c) m s xs
fails_e c m s [] t = tt
fails_e c m s (x ∷ xs) t = (
  (λ h. not_e (meets_test c m s x.0 x.1) (and_l (not (meets_test c m s x.0 x.1)) _ t) ((meets_dec c m s x.0 x.1).1 h)),
  fails_e c m (without s x.0 x.1) xs (and_r (not (meets_test c m s x.0 x.1)) _ t),
)

-- two tests that compute show that a list of crossings leaves the largest closed set
pub certificate : (c : ℕ) (m : Meaning) (u : Set) (xs : List (ℕ × ℕ))
    → T (all_fail c m u xs) → T (closed_test c m (crossed u xs)) → LargestClosed (count_on c) m u (crossed u xs)
certificate c m u xs f t =
    crossings_largest (count_on c) m (counts_monotone c m) u xs (fails_e c m u xs f) (closed_e c m (crossed u xs) t)
