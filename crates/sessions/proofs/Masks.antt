-- The bits of a word of low bits, of `!`, and of one word without the bits of another.
use Rattle.std.proofs.Common.{◌≡◌, ℕ, zero, suc, ◌-◌, ◌*◌, ◌/◌, ◌%◌, ◌^◌, ◌<◌, ◌≤◌, Bool, true, false, not, ◌&&◌, eqb, ltb, ◌≢◌, sym, ap, ◌∙◌, pow-suc, arith, ltb→lt, lt→ltb, pow_pos}
use mathlib.Core.Bool.{and-true}
use native.Mathlib.Decide.{ℕ_discrete, dec_lt}
use lib.Bits.{bit_and}
use Rattle.bits.specs.Bits.{bit}
use Rattle.bits.proofs.Tests.{to_true, to_false, same_T, eqb_yes, eqb_no}
use Rattle.bits.proofs.Words.{bit_of_and, bit_high, bit_none, bit_up}

pub ltb_yes : (a n : ℕ) → a < n → ltb a n ≡ true
ltb_yes a n h = to_true (ltb a n) (lt→ltb a n h)

pub ltb_no : (a n : ℕ) → n ≤ a → ltb a n ≡ false
ltb_no a n h = to_false (ltb a n) (λ t. let l : a < n = ltb→lt a n t in omega arith)

ltb_suc : (a n : ℕ) → ltb a n ≡ ltb (suc a) (suc n)
ltb_suc a n =
    same_T (ltb a n) (ltb (suc a) (suc n)) (λ t. let l : a < n = ltb→lt a n t in lt→ltb (suc a) (suc n) (omega arith))
    (λ t. let l : suc a < suc n = ltb→lt (suc a) (suc n) t in lt→ltb a n (omega arith))

-- all low bits but those of x
bit_not : (n x b : ℕ) → x < 2 ^ n → bit (2 ^ n - 1 - x) b ≡ (ltb b n && not (bit x b))
bit_not zero x b h =
    let e : 2 ^ 0 - 1 - x ≡ 0 = omega arith in
    ap (λ (z : ℕ). bit z b) e ∙ (bit_none b ∙ sym (ap (λ (z : Bool). z && not (bit x b)) (ltb_no b 0 (omega arith))))
bit_not (suc n) x zero h =
    let p : 2 ^ suc n ≡ 2 ^ n * 2 = pow-suc 2 n in
    let t : ltb 0 (suc n) ≡ true = ltb_yes 0 (suc n) (omega arith) in
    elim (ℕ_discrete (x / 2 ^ 0 % 2) 1) [
      | yes e ↦
          (let ne : (2 ^ suc n - 1 - x) / 2 ^ 0 % 2 ≢ 1 = omega arith in
          eqb_no _ 1 ne ∙ sym (ap (λ (z : Bool). z && not (bit x 0)) t ∙ ap not (eqb_yes _ 1 e)))
      | no o ↦
          (let is : (2 ^ suc n - 1 - x) / 2 ^ 0 % 2 ≡ 1 = omega arith in
          eqb_yes _ 1 is ∙ sym (ap (λ (z : Bool). z && not (bit x 0)) t ∙ ap not (eqb_no _ 1 o)))
    ]
bit_not (suc n) x (suc b) h =
    let p : 2 ^ suc n ≡ 2 ^ n * 2 = pow-suc 2 n in
    let e : (2 ^ suc n - 1 - x) / 2 ≡ 2 ^ n - 1 - x / 2 = omega arith in
    bit_up (2 ^ suc n - 1 - x) b
    ∙ (ap (λ (z : ℕ). bit z b) e
    ∙ (bit_not n (x / 2) b (omega arith)
    ∙ (ap (λ (z : Bool). z && not (bit (x / 2) b)) (ltb_suc b n) ∙ ap (λ (z : Bool). ltb (suc b) (suc n) && not z) (sym (bit_up x b)))))

pub bit_low : (n b : ℕ) → bit (2 ^ n - 1) b ≡ ltb b n
bit_low n b =
    let e : 2 ^ n - 1 ≡ 2 ^ n - 1 - 0 = omega arith in
    ap (λ (z : ℕ). bit z b) e
    ∙ (bit_not n 0 b (pow_pos n) ∙ (ap (λ (z : Bool). ltb b n && not z) (bit_none b) ∙ and-true (ltb b n)))

-- a word has a bit for each number that is below 32
pub one_bit : (a b : ℕ) → a < 32 → (eqb a b && ltb b 32) ≡ eqb a b
one_bit a b h =
    elim (ℕ_discrete a b) [
      | yes e ↦ ap (λ (z : Bool). eqb a b && z) (ltb_yes b 32 (omega arith)) ∙ and-true (eqb a b)
      | no n ↦ ap (λ (z : Bool). z && ltb b 32) (eqb_no a b n) ∙ sym (eqb_no a b n)
    ]

pub bit_minus : (x y b : ℕ) → x < 2 ^ 32 → y < 2 ^ 32 → bit (bit_and x (2 ^ 32 - 1 - y)) b ≡ (bit x b && not (bit y b))
bit_minus x y b hx hy =
    bit_of_and x (2 ^ 32 - 1 - y) b
    ∙ (ap (λ (z : Bool). bit x b && z) (bit_not 32 y b hy)
    ∙ (elim (dec_lt b 32) [
      | yes l ↦ ap (λ (z : Bool). bit x b && (z && not (bit y b))) (ltb_yes b 32 l)
      | no g ↦
          (let none : bit x b ≡ false = bit_high x 32 b hx (omega arith) in
          ap (λ (z : Bool). z && (ltb b 32 && not (bit y b))) none ∙ sym (ap (λ (z : Bool). z && not (bit y b)) none))
    ]))
