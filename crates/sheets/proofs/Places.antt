-- Where links and row words stand, and what a new one leaves of the others.
use Rattle.std.proofs.Common.{◌≡◌, ℕ, ◌+◌, ◌*◌, ◌^◌, ◌<◌, Bool, false, ◌&&◌, ◌||◌, eqb, List, length, get_or, sym, ap, ◌∙◌, subst, inl, inr, arith, true}
use lib.Bits.{bit_or}
use Rattle.std.proofs.lemmas.List.{get_or-set_same, get_or-set_other, length-set}
use Rattle.std.proofs.lemmas.Bool.{cases_order, cases_eq, and_parts, ltb-true}
use Rattle.std.proofs.lemmas.Bool.Decides.{nat_tests}
use Rattle.bits.specs.Bits.{bit}
use Rattle.bits.proofs.Words.{bit_of_or, bit_pow}
use Rattle.bits.proofs.Tests.{eqb_no, eqb_yes}
use Rattle.meaning.specs.Grid.{link_bit, place}
use Rattle.meaning.specs.Pairs.{pair, start}
use Rattle.meaning.proofs.Starts.{pair_below}
use Rattle.sheets.specs.Reading.{with_link}
use Rattle.sheets.specs.Texts.{first, second, Sheet, is_given}

pub first_of : (i j : ℕ) → j < 32 → first (32 * i + j) ≡ i
first_of i j h = omega arith

pub second_of : (i j : ℕ) → j < 32 → second (32 * i + j) ≡ j
second_of i j h = omega arith

pub whole_pair : (q : ℕ) → 32 * first q + second q ≡ q
whole_pair q = omega arith

pub record Given (s : Sheet) (q : ℕ) : Type 0 where
  pub low : first q < second q
  pub there : second q < s.opening.items
  pub linked : link_bit s.links (first q) (second q) ≡ true

pub given_parts : (s : Sheet) (q : ℕ) → is_given s q ≡ true → Given s q
given_parts s q e =
    let p = and_parts _ _ e in
    let r = and_parts _ _ p.0 in
    record { low = ltb-true _ _ r.0; there = ltb-true _ _ r.1; linked = p.1 }

below_start : (i j k : ℕ) → i < j → j < k → pair i j < start k
unfolding start
below_start i j k h l = pair_below k j i l h

pub pair_apart : (i j x y : ℕ) → i < j → x < y → pair i j ≡ pair x y → (i ≡ x) × (j ≡ y)
pair_apart i j x y h k e =
    elim (cases_order j y) [
      | inl same ↦ (let f : start j ≡ start y = ap start same in omega arith, same)
      | inr other ↦ elim other [
        | inl less ↦ absurd (omega (arith, below_start i j y h less))
        | inr more ↦ absurd (omega (arith, below_start x y j k more))
      ]
    ]

pub place_apart : (i a j x b y : ℕ) → i < j → x < y → a < 32 → b < 32 → place i a j ≡ place x b y → (i ≡ x) × (a ≡ b) × (j ≡ y)
place_apart i a j x b y h k l m e =
    let same : pair i j ≡ pair x y = omega arith in
    let p = pair_apart i j x y h k same in
    (p.0, omega arith, p.1)

link_word : (links : List ℕ) (i j x : ℕ) → i < length links → (y : ℕ) → link_bit (with_link links i j) x y ≡ (link_bit links x y || (eqb i x && eqb j y))
link_word links i j x h y =
    elim (cases_eq x i) [
      | inl e ↦
          let w = get_or links i 0 in
          let s : get_or (with_link links i j) x 0 ≡ bit_or (get_or links i 0) (2 ^ j) = ap (λ (z : ℕ). get_or (with_link links i j) z 0) e ∙ get_or-set_same links i (bit_or (get_or links i 0) (2 ^ j)) 0 h in
          let t : link_bit (with_link links i j) x y ≡ (bit (get_or links i 0) y || eqb j y) =
          ap (λ (z : ℕ). bit z y) s ∙ bit_of_or (get_or links i 0) (2 ^ j) y ∙ ap (λ (z : Bool). bit (get_or links i 0) y || z) (bit_pow j y) in
          let u : bit (get_or links i 0) y ≡ link_bit links x y = ap (λ (z : ℕ). link_bit links z y) (sym e) in
          t ∙ ap (λ (z : Bool). z || eqb j y) u ∙ ap (λ (z : Bool). link_bit links x y || (z && eqb j y)) (sym (eqb_yes i x (sym e)))
      | inr ne ↦
          let s : link_bit (with_link links i j) x y ≡ link_bit links x y = ap (λ (z : ℕ). bit z y) (get_or-set_other links i x (bit_or (get_or links i 0) (2 ^ j)) 0 ne) in
          let f : eqb i x ≡ false = eqb_no i x (λ e. ne (sym e)) in
          s ∙ grind (arith, nat_tests)
    ]

pub links_set : (links : List ℕ) (i j : ℕ) → i < length links → j < length links → (x y : ℕ)
    → link_bit (with_link (with_link links i j) j i) x y ≡ ((link_bit links x y || (eqb i x && eqb j y)) || (eqb j x && eqb i y))
links_set links i j h k x y =
    link_word (with_link links i j) j i x (subst (λ (n : ℕ). j < n) (sym (length-set links i (bit_or (get_or links i 0) (2 ^ j)))) k) y
    ∙ ap (λ (z : Bool). z || (eqb j x && eqb i y)) (link_word links i j x h y)

pub links_length : (links : List ℕ) (i j : ℕ) → length (with_link (with_link links i j) j i) ≡ length links
links_length links i j =
    length-set (with_link links i j) j _ ∙ length-set links i (bit_or (get_or links i 0) (2 ^ j))
