-- Truth of tests: how `T` goes through `&&`, `||` and `not`, and to and from an equation.
use mathlib.Core.Path.{◌≡◌, refl, sym, subst}
use mathlib.Core.Bool.{Bool, true, false, ◌&&◌, ◌||◌, not}
use mathlib.Core.Logic.{◌≢◌, ◌⊎◌, inl, inr}
use Prim.Native.Nat.{ℕ}
use lib.Dec.{T, eqb, eqb→eq, eqb_refl}
use Rattle.bits.specs.Below.{if_then}

pub and_l : (a b : Bool) → T (a && b) → T a
and_l true b t = tt
and_l false b t = t

pub and_r : (a b : Bool) → T (a && b) → T b
and_r true b t = t
and_r false b t = absurd t

pub and_i : (a b : Bool) → T a → T b → T (a && b)
and_i true b x y = y
and_i false b x y = x

pub or_cases : (a b : Bool) → T (a || b) → T a ⊎ T b
or_cases true b t = inl tt
or_cases false b t = inr t

pub or_l : (a b : Bool) → T a → T (a || b)
or_l true b t = tt
or_l false b t = absurd t

pub or_r : (a b : Bool) → T b → T (a || b)
or_r true b t = tt
or_r false b t = t

pub T_or_not : (b : Bool) → T b ⊎ (T b → ⊥)
T_or_not true = inl tt
T_or_not false = inr (λ x. x)

pub if_then_e : (a b : Bool) → T (if_then a b) → T a → T b
if_then_e true b h t = h
if_then_e false b h t = absurd t

pub if_then_i : (a b : Bool) → (T a → T b) → T (if_then a b)
if_then_i true b h = h tt
if_then_i false b h = tt

pub if_then_not : (a b : Bool) → (T (if_then a b) → ⊥) → T a × (T b → ⊥)
if_then_not true b h = (tt, h)
if_then_not false b h = absurd (h tt)

pub not_e : (b : Bool) → T (not b) → T b → ⊥
not_e true h t = h
not_e false h t = t

pub not_i : (b : Bool) → (T b → ⊥) → T (not b)
not_i true h = h tt
not_i false h = tt

pub to_true : (b : Bool) → T b → b ≡ true
to_true true t = refl
to_true false t = absurd t

pub to_false : (b : Bool) → (T b → ⊥) → b ≡ false
to_false true h = absurd (h tt)
to_false false h = refl

pub of_true : {b : Bool} → b ≡ true → T b
of_true {b} e = subst T (sym e) tt

pub of_false : {b : Bool} → b ≡ false → T b → ⊥
of_false {b} e t = subst T e t

-- two tests that pass together are one
pub same_T : (a b : Bool) → (T a → T b) → (T b → T a) → a ≡ b
same_T true b f g = sym (to_true b (f tt))
same_T false b f g = sym (to_false b g)

pub eqb_no : (a b : ℕ) → a ≢ b → eqb a b ≡ false
eqb_no a b n = to_false (eqb a b) (λ t. n (eqb→eq a b t))

pub eqb_yes : (a b : ℕ) → a ≡ b → eqb a b ≡ true
eqb_yes a b e = to_true (eqb a b) (subst (λ (x : ℕ). T (eqb a x)) e (eqb_refl a))
