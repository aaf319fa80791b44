-- The bits of a word, of the words that `|`, `&` and `^` make, and of a power of two.
use mathlib.Core.Path.{◌≡◌, refl, sym, ◌∙◌, subst, subst₂, ap}
use mathlib.Core.Bool.{Bool, true, false, ◌&&◌, ◌||◌, not}
use mathlib.Core.Logic.{◌≢◌, ◌⊎◌, inl, inr}
use Prim.Native.Nat.{ℕ, zero, suc, ◌+◌, ◌-◌, ◌*◌, ◌/◌, ◌%◌, ◌^◌, ◌<◌, ◌≤◌}
use native.Mathlib.Nat.{div-div-eq-div-mul, div-eq_of_lt, div_self, le-div_iff_mul-le, lt_of_lt_of_le, mul_comm, not-suc-le-zero, pow-suc, zero-div}
use native.Mathlib.Omega.{arith}
use native.Mathlib.Decide.{ℕ_discrete, dec_lt}
use lib.Bits.{bit_and, bit_or, bit_xor, and_shr, or_shr, xor_shr, and_mod, or_mod, xor_mod}
use lib.Pow.{pow-add, pow_pos, pow-lt, pow_mono, shl-shr}
use lib.Dec.{T, eqb, eqb_refl}
use Rattle.bits.specs.Bits.{bit}
use Rattle.bits.proofs.Tests.{to_true, of_true, of_false, eqb_no, eqb_yes}

zero_or_one : (p : ℕ) → p < 2 → (p ≡ 0) ⊎ (p ≡ 1)
zero_or_one p h = elim (ℕ_discrete p 0) [ yes e ↦ inl e | no n ↦ inr (omega arith) ]

low_or : (p q : ℕ) → p < 2 → q < 2 → eqb (bit_or p q) 1 ≡ (eqb p 1 || eqb q 1)
low_or p q hp hq =
    elim (zero_or_one p hp) [
      | inl e ↦ elim (zero_or_one q hq) [ inl f ↦ rw (e, f) refl | inr f ↦ rw (e, f) refl ]
      | inr e ↦ elim (zero_or_one q hq) [ inl f ↦ rw (e, f) refl | inr f ↦ rw (e, f) refl ]
    ]

low_and : (p q : ℕ) → p < 2 → q < 2 → eqb (bit_and p q) 1 ≡ (eqb p 1 && eqb q 1)
low_and p q hp hq =
    let P : ℕ → ℕ → Type 0 = λ x y. eqb (bit_and x y) 1 ≡ (eqb x 1 && eqb y 1) in
    elim (zero_or_one p hp) [
      | inl e ↦ elim (zero_or_one q hq) [ inl f ↦ subst₂ P (sym e) (sym f) refl | inr f ↦ subst₂ P (sym e) (sym f) refl ]
      | inr e ↦ elim (zero_or_one q hq) [ inl f ↦ subst₂ P (sym e) (sym f) refl | inr f ↦ subst₂ P (sym e) (sym f) refl ]
    ]

pub bit_of_or : (x y b : ℕ) → bit (bit_or x y) b ≡ (bit x b || bit y b)
bit_of_or x y b =
    ap (λ (z : ℕ). eqb z 1) (ap (λ (z : ℕ). z % 2) (or_shr x y b) ∙ or_mod (x / 2 ^ b) (y / 2 ^ b) 1)
    ∙ low_or (x / 2 ^ b % 2) (y / 2 ^ b % 2) (omega arith) (omega arith)

pub bit_of_and : (x y b : ℕ) → bit (bit_and x y) b ≡ (bit x b && bit y b)
bit_of_and x y b =
    ap (λ (z : ℕ). eqb z 1) (ap (λ (z : ℕ). z % 2) (and_shr x y b) ∙ and_mod (x / 2 ^ b) (y / 2 ^ b) 1)
    ∙ low_and (x / 2 ^ b % 2) (y / 2 ^ b % 2) (omega arith) (omega arith)

high_even : (d b : ℕ) → 2 ^ (d + 1 + b) / 2 ^ b % 2 ≡ 0
high_even d b =
    let e : 2 ^ (d + 1 + b) ≡ 2 ^ (d + 1) * 2 ^ b = pow-add 2 (d + 1) b in
    let f : 2 ^ (d + 1) ≡ 2 ^ d * 2 ^ 1 = pow-add 2 d 1 in
    ap (λ (z : ℕ). z / 2 ^ b % 2) e ∙ (ap (λ (z : ℕ). z % 2) (shl-shr (2 ^ (d + 1)) b) ∙ omega (arith, f))

pub bit_pow : (a b : ℕ) → bit (2 ^ a) b ≡ eqb a b
bit_pow a b =
    elim (ℕ_discrete a b) [
      | yes e ↦
          ap (λ (z : ℕ). eqb (2 ^ a / 2 ^ z % 2) 1) (sym e) ∙ (ap (λ (z : ℕ). eqb (z % 2) 1) (div_self (pow_pos a)) ∙ sym (to_true (eqb a b) (subst (λ (z : ℕ). T (eqb a z)) e (eqb_refl a))))
      | no n ↦
          elim (dec_lt a b) [
            | yes lt ↦ ap (λ (z : ℕ). eqb (z % 2) 1) (div-eq_of_lt (pow-lt lt)) ∙ sym (eqb_no a b n)
            | no nlt ↦
                (let e : a ≡ (a - b - 1) + 1 + b = omega arith in
                ap (λ (z : ℕ). eqb (2 ^ z / 2 ^ b % 2) 1) e ∙ (ap (λ (z : ℕ). eqb z 1) (high_even (a - b - 1) b) ∙ sym (eqb_no a b n)))
          ]
    ]

low_xor : (p q : ℕ) → p < 2 → q < 2 → eqb (bit_xor p q) 1 ≡ (eqb p 1 && not (eqb q 1) || not (eqb p 1) && eqb q 1)
low_xor p q hp hq =
    let P : ℕ → ℕ → Type 0 = λ x y. eqb (bit_xor x y) 1 ≡ (eqb x 1 && not (eqb y 1) || not (eqb x 1) && eqb y 1) in
    elim (zero_or_one p hp) [
      | inl e ↦ elim (zero_or_one q hq) [ inl f ↦ subst₂ P (sym e) (sym f) refl | inr f ↦ subst₂ P (sym e) (sym f) refl ]
      | inr e ↦ elim (zero_or_one q hq) [ inl f ↦ subst₂ P (sym e) (sym f) refl | inr f ↦ subst₂ P (sym e) (sym f) refl ]
    ]

pub bit_of_xor : (x y b : ℕ) → bit (bit_xor x y) b ≡ (bit x b && not (bit y b) || not (bit x b) && bit y b)
bit_of_xor x y b =
    ap (λ (z : ℕ). eqb z 1) (ap (λ (z : ℕ). z % 2) (xor_shr x y b) ∙ xor_mod (x / 2 ^ b) (y / 2 ^ b) 1)
    ∙ low_xor (x / 2 ^ b % 2) (y / 2 ^ b % 2) (omega arith) (omega arith)

clear : (x y : Bool) → (x && not (x && y) || not x && (x && y)) ≡ (x && not y)
clear true true = refl
clear true false = refl
clear false y = refl

pub bit_clear : (x y b : ℕ) → bit (bit_xor x (bit_and x y)) b ≡ (bit x b && not (bit y b))
bit_clear x y b =
    bit_of_xor x (bit_and x y) b
    ∙ (ap (λ (z : Bool). bit x b && not z || not (bit x b) && z) (bit_of_and x y b) ∙ clear (bit x b) (bit y b))

-- a word has no bit from the first power of two above it on
pub bit_high : (w n k : ℕ) → w < 2 ^ n → n ≤ k → bit w k ≡ false
bit_high w n k h l = ap (λ (z : ℕ). eqb (z % 2) 1) (div-eq_of_lt (lt_of_lt_of_le h (pow_mono l)))

pub bit_none : (k : ℕ) → bit 0 k ≡ false
bit_none k = ap (λ (z : ℕ). eqb (z % 2) 1) (zero-div (2 ^ k))

pub bit_up : (x k : ℕ) → bit x (suc k) ≡ bit (x / 2) k
bit_up x k = ap (λ (z : ℕ). eqb (z % 2) 1) (ap (λ (z : ℕ). x / z) (pow-suc 2 k ∙ mul_comm (2 ^ k) 2) ∙ sym (div-div-eq-div-mul x 2 (2 ^ k)))

bit_rise : (x k : ℕ) → T (bit (x / 2) k) → T (bit x (suc k))
bit_rise x k t = subst T (sym (bit_up x k)) t

some_bit_below : (n x : ℕ) → x < n → x ≢ 0 → (k : ℕ) × T (bit x k)
some_bit_below zero x lt ne = absurd (not-suc-le-zero lt)
some_bit_below (suc n) x lt ne =
    elim (ℕ_discrete (x % 2) 1) [
      | yes e ↦ (0, of_true (ap (λ (z : ℕ). eqb (z % 2) 1) (one_down x) ∙ eqb_yes (x % 2) 1 e))
      | no o ↦
          (let half : x / 2 ≢ 0 = omega arith in
          let r = some_bit_below n (x / 2) (omega arith) half in
          (suc r.0, bit_rise x r.0 r.1))
    ]
  where
    one_down : (x : ℕ) → x / 2 ^ 0 ≡ x
    one_down x = omega arith

-- a word that is not 0 has a bit, and the other way round
pub some_bit : (x : ℕ) → x ≢ 0 → (k : ℕ) × T (bit x k)
some_bit x ne = some_bit_below (suc x) x (omega arith) ne

pub bit_there : (x k : ℕ) → T (bit x k) → x ≢ 0
bit_there x k t e = of_false (ap (λ (z : ℕ). bit z k) e ∙ bit_none k) t

-- a word from a power of two on has a bit there or above
pub high_bit : (w n : ℕ) → 2 ^ n ≤ w → (k : ℕ) × (n ≤ k) × T (bit w k)
high_bit w n h =
    let ne : w / 2 ^ n ≢ 0 = λ e. let p : 1 ≤ w / 2 ^ n = (le-div_iff_mul-le (pow_pos n)).1 (omega arith) in omega arith in
    let r = some_bit (w / 2 ^ n) ne in
    let q : w / 2 ^ n / 2 ^ r.0 ≡ w / 2 ^ (n + r.0) = div-div-eq-div-mul w (2 ^ n) (2 ^ r.0) ∙ ap (λ (z : ℕ). w / z) (sym (pow-add 2 n r.0)) in
    (n + r.0, omega arith, subst (λ (z : ℕ). T (eqb (z % 2) 1)) q r.1)
