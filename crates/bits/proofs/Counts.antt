-- Laws of `count`: one more number, larger and smaller tests, one number less.
use mathlib.Core.Path.{◌≡◌, refl, sym, ◌∙◌, subst, ap}
use mathlib.Core.Bool.{Bool, true, false, ◌&&◌, not}
use mathlib.Core.Logic.{◌≢◌, inl, inr}
use Prim.Native.Nat.{ℕ, zero, suc, ◌+◌, ◌<◌, ◌≤◌}
use native.Mathlib.Nat.{le_refl, not-suc-le-zero}
use native.Mathlib.Omega.{arith}
use native.Mathlib.Decide.{ℕ_discrete}
use lib.Dec.{T, eqb}
use Rattle.bits.specs.Below.{count, one_if}
use Rattle.bits.proofs.Tests.{T_or_not, eqb_yes, eqb_no}
use Rattle.bits.proofs.Belows.{below_cases}

one_if_mono : (a b : Bool) → (T a → T b) → one_if a ≤ one_if b
one_if_mono true true h = le_refl 1
one_if_mono true false h = absurd (h tt)
one_if_mono false true h = omega arith
one_if_mono false false h = le_refl 0

pub count_mono : (n : ℕ) (f g : ℕ → Bool) → ((k : ℕ) → k < n → T (f k) → T (g k)) → count n f ≤ count n g
unfolding count
count_mono zero f g h = le_refl 0
count_mono (suc n) f g h =
    let p : one_if (f n) ≤ one_if (g n) = one_if_mono (f n) (g n) (h n (le_refl (suc n))) in
    let q : count n f ≤ count n g = count_mono n f g (λ k lt. h k (omega arith)) in
    omega arith

one_if_le : (b : Bool) → one_if b ≤ 1
one_if_le true = le_refl 1
one_if_le false = omega arith

pub one_if_yes : (b : Bool) → T b → one_if b ≡ 1
one_if_yes true t = refl
one_if_yes false t = absurd t

pub one_if_no : (b : Bool) → (T b → ⊥) → one_if b ≡ 0
one_if_no true h = absurd (h tt)
one_if_no false h = refl

pub one_if_back : (b : Bool) → 1 ≤ one_if b → T b
one_if_back true h = tt
one_if_back false h = absurd (not-suc-le-zero h)

pub one_if_none : (b : Bool) → one_if b ≡ 0 → T b → ⊥
one_if_none true h t = absurd (omega arith)
one_if_none false h t = t

pub count_le : (n : ℕ) (f : ℕ → Bool) → count n f ≤ n
unfolding count
count_le zero f = le_refl 0
count_le (suc n) f =
    let p : one_if (f n) ≤ 1 = one_if_le (f n) in
    let q : count n f ≤ n = count_le n f in
    omega arith

pub count_one : (n : ℕ) (f : ℕ → Bool) (k : ℕ) → k < n → T (f k) → 1 ≤ count n f
unfolding count
count_one zero f k lt t = absurd (not-suc-le-zero lt)
count_one (suc n) f k lt t =
    elim (below_cases k n lt) [
      | inl e ↦ let p : one_if (f n) ≡ 1 = one_if_yes (f n) (subst (λ (x : ℕ). T (f x)) e t) in omega arith
      | inr l ↦ let q : 1 ≤ count n f = count_one n f k l t in omega arith
    ]

pub count_two : (n : ℕ) (f : ℕ → Bool) (k l : ℕ) → k < l → l < n → T (f k) → T (f l) → 2 ≤ count n f
unfolding count
count_two zero f k l kl ln tk tl = absurd (not-suc-le-zero ln)
count_two (suc n) f k l kl ln tk tl =
    elim (below_cases l n ln) [
      | inl e ↦
          let p : one_if (f n) ≡ 1 = one_if_yes (f n) (subst (λ (x : ℕ). T (f x)) e tl) in
          let kn : k < n = omega arith in
          let q : 1 ≤ count n f = count_one n f k kn tk in
          omega arith
      | inr h ↦ let q : 2 ≤ count n f = count_two n f k l kl h tk tl in omega arith
    ]

pub count_none : (n : ℕ) (f : ℕ → Bool) → ((k : ℕ) → k < n → T (f k) → ⊥) → count n f ≤ 0
unfolding count
count_none zero f h = le_refl 0
count_none (suc n) f h =
    let p : one_if (f n) ≡ 0 = one_if_no (f n) (h n (le_refl (suc n))) in
    let q : count n f ≤ 0 = count_none n f (λ k lt. h k (omega arith)) in
    omega arith

-- at most one passes
pub count_lone : (n : ℕ) (f : ℕ → Bool) (b : ℕ) → ((k : ℕ) → k < n → T (f k) → k ≡ b) → count n f ≤ 1
unfolding count
count_lone zero f b h = omega arith
count_lone (suc n) f b h =
    elim (T_or_not (f n)) [
      | inl t ↦
          let e : n ≡ b = h n (le_refl (suc n)) t in
          let p : one_if (f n) ≤ 1 = one_if_le (f n) in
          let q : count n f ≤ 0 = count_none n f (λ k lt x. let g : k ≡ b = h k (omega arith) x in omega arith) in
          omega arith
      | inr no' ↦
          let p : one_if (f n) ≡ 0 = one_if_no (f n) no' in
          let q : count n f ≤ 1 = count_lone n f b (λ k lt. h k (omega arith)) in
          omega arith
    ]

pub count_cong : (n : ℕ) (f g : ℕ → Bool) → ((k : ℕ) → k < n → f k ≡ g k) → count n f ≡ count n g
unfolding count
count_cong zero f g h = refl
count_cong (suc n) f g h =
    let p : one_if (f n) ≡ one_if (g n) = ap one_if (h n (le_refl (suc n))) in
    let q : count n f ≡ count n g = count_cong n f g (λ k lt. h k (omega arith)) in
    omega arith

pub count_find : (n : ℕ) (f : ℕ → Bool) → 1 ≤ count n f → (k : ℕ) × (k < n) × T (f k)
unfolding count
count_find zero f h = absurd (not-suc-le-zero h)
count_find (suc n) f h =
    elim (T_or_not (f n)) [
      | inl t ↦ (n, le_refl (suc n), t)
      | inr no' ↦
          (let z : one_if (f n) ≡ 0 = one_if_no (f n) no' in
          let r = count_find n f (omega arith) in
          (r.0, omega arith, r.2))
    ]

and_not_same : (a : Bool) → (a && not false) ≡ a
and_not_same true = refl
and_not_same false = refl

and_not_none : (a : Bool) → (a && not true) ≡ false
and_not_none true = refl
and_not_none false = refl

pub count_drop : (n : ℕ) (f g : ℕ → Bool) (k : ℕ) → k < n → T (f k) → ((x : ℕ) → x < n → g x ≡ (f x && not (eqb k x))) → count n f ≡ count n g + 1
unfolding count
count_drop zero f g k lt t h = absurd (not-suc-le-zero lt)
count_drop (suc n) f g k lt t h =
    elim (ℕ_discrete k n) [
      | yes e ↦
          (let p : one_if (f n) ≡ 1 = one_if_yes (f n) (subst (λ (x : ℕ). T (f x)) e t) in
          let r : one_if (g n) ≡ 0 = ap one_if (h n (le_refl (suc n)) ∙ (ap (λ (z : Bool). f n && not z) (eqb_yes k n e) ∙ and_not_none (f n))) in
          let q : count n f ≡ count n g =
          count_cong n f g (λ x xl. let ne : k ≢ x = omega arith in sym (h x (omega arith) ∙ (ap (λ (z : Bool). f x && not z) (eqb_no k x ne) ∙ and_not_same (f x)))) in
          omega arith)
      | no ne ↦
          (let p : one_if (f n) ≡ one_if (g n) = sym (ap one_if (h n (le_refl (suc n)) ∙ (ap (λ (z : Bool). f n && not z) (eqb_no k n ne) ∙ and_not_same (f n)))) in
          let q : count n f ≡ count n g + 1 = count_drop n f g k (omega arith) t (λ x xl. h x (omega arith)) in
          omega arith)
    ]

-- below a higher bound there are no fewer
pub count_up : (k n : ℕ) (f : ℕ → Bool) → k ≤ n → count k f ≤ count n f
unfolding count
count_up k zero f h = let e : k ≡ 0 = omega arith in rw e (le_refl 0)
count_up k (suc n) f h =
    elim (ℕ_discrete k (suc n)) [
      | yes e ↦ rw e (le_refl (count (suc n) f))
      | no ne ↦ let q : count k f ≤ count n f = count_up k n f (omega arith) in omega arith
    ]

pub count_below_none : (f : ℕ → Bool) → count 0 f ≡ 0
unfolding count
count_below_none f = refl

-- the lowest number apart
pub count_low : (n : ℕ) (f : ℕ → Bool) → count (suc n) f ≡ one_if (f 0) + count n (λ k. f (suc k))
unfolding count
count_low zero f = refl
count_low (suc n) f = let q : count (suc n) f ≡ one_if (f 0) + count n (λ k. f (suc k)) = count_low n f in omega arith

-- where none passes from k on, the higher bound counts no more
pub count_cut : (k n : ℕ) (f : ℕ → Bool) → k ≤ n → ((x : ℕ) → k ≤ x → f x ≡ false) → count n f ≡ count k f
unfolding count
count_cut k zero f h none = let e : k ≡ 0 = omega arith in rw e refl
count_cut k (suc n) f h none =
    elim (ℕ_discrete k (suc n)) [
      | yes e ↦ rw e refl
      | no ne ↦
          (let z : one_if (f n) ≡ 0 = ap one_if (none n (omega arith)) in
          let q : count n f ≡ count k f = count_cut k n f (omega arith) none in
          omega arith)
    ]
