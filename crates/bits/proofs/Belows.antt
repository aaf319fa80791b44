-- What `every` and `some` say of a number below the bound.
use mathlib.Core.Path.{◌≡◌, sym, subst}
use mathlib.Core.Bool.{Bool, true, false}
use mathlib.Core.Logic.{◌⊎◌, inl, inr}
use Prim.Native.Nat.{ℕ, zero, suc, ◌<◌}
use native.Mathlib.Nat.{le_refl, not-suc-le-zero}
use native.Mathlib.Omega.{arith}
use native.Mathlib.Decide.{ℕ_discrete}
use lib.Dec.{T}
use Rattle.bits.specs.Below.{every, some}
use Rattle.bits.proofs.Tests.{and_l, and_r, and_i, or_cases, or_l, or_r, T_or_not, to_true, to_false, of_true, of_false}

-- a number below the next is that one or below it
pub below_cases : (k n : ℕ) → k < suc n → (k ≡ n) ⊎ (k < n)
below_cases k n h = elim (ℕ_discrete k n) [ yes e ↦ inl e | no ne ↦ inr (omega arith) ]

pub every_e : (n : ℕ) (p : ℕ → Bool) → T (every n p) → (k : ℕ) → k < n → T (p k)
unfolding every
every_e zero p h k lt = absurd (not-suc-le-zero lt)
every_e (suc n) p h k lt =
    elim (below_cases k n lt) [
      | inl e ↦ subst (λ (x : ℕ). T (p x)) (sym e) (and_l (p n) (every n p) h)
      | inr l ↦ every_e n p (and_r (p n) (every n p) h) k l
    ]

pub every_i : (n : ℕ) (p : ℕ → Bool) → ((k : ℕ) → k < n → T (p k)) → T (every n p)
unfolding every
every_i zero p h = tt
every_i (suc n) p h = and_i (p n) (every n p) (h n (le_refl (suc n))) (every_i n p (λ k lt. h k (omega arith)))

-- where not every number passes, one fails
pub every_not_e : (n : ℕ) (p : ℕ → Bool) → (T (every n p) → ⊥) → (k : ℕ) × (k < n) × (T (p k) → ⊥)
unfolding every
every_not_e zero p h = absurd (h tt)
every_not_e (suc n) p h =
    elim (T_or_not (p n)) [
      | inl t ↦ let r = every_not_e n p (λ e. h (and_i (p n) (every n p) t e)) in (r.0, omega arith, r.2)
      | inr f ↦ (n, le_refl (suc n), f)
    ]

pub some_e : (n : ℕ) (p : ℕ → Bool) → T (some n p) → (k : ℕ) × (k < n) × T (p k)
unfolding some
some_e zero p h = absurd h
some_e (suc n) p h =
    elim (or_cases (p n) (some n p) h) [
      | inl t ↦ (n, le_refl (suc n), t)
      | inr t ↦ let r = some_e n p t in (r.0, omega arith, r.2)
    ]

pub some_i : (n : ℕ) (p : ℕ → Bool) (k : ℕ) → k < n → T (p k) → T (some n p)
unfolding some
some_i zero p k lt t = absurd (not-suc-le-zero lt)
some_i (suc n) p k lt t =
    elim (below_cases k n lt) [
      | inl e ↦ or_l (p n) (some n p) (subst (λ (x : ℕ). T (p x)) e t)
      | inr l ↦ or_r (p n) (some n p) (some_i n p k l t)
    ]

pub every_at : (n : ℕ) (p : ℕ → Bool) → every n p ≡ true → (k : ℕ) → k < n → p k ≡ true
every_at n p e k h = to_true (p k) (every_e n p (of_true e) k h)

pub every_fails : (n : ℕ) (p : ℕ → Bool) (k : ℕ) → k < n → p k ≡ false → every n p ≡ false
every_fails n p k h e = to_false (every n p) (λ t. of_false e (every_e n p t k h))
