-- What a right junction keeps, one fact at a time.
use Rattle.std.proofs.Common.{◌≡◌, ℕ, zero, suc, ◌*◌, ◌/◌, ◌%◌, ◌^◌, ◌<◌, ◌≤◌, Bool, true, false, not, ◌&&◌, ltb, ◌⊎◌, get_or, sym, refl, ap, ◌∙◌, inl, inr, ⊎_elim, pow-suc, arith}
use Rattle.std.proofs.lemmas.Bool.{and_parts, cases_Bool, cond-true, cond-false, eqb-true, ltb-true, leb-true, not-true}
use Rattle.std.proofs.lemmas.Bool.Decides.{nat_tests}
use Rattle.bits.specs.Below.{every, one_if}
use Rattle.bits.specs.Bits.{bit}
use Rattle.bits.proofs.Belows.{every_at}
use Rattle.bits.proofs.Words.{bit_high, bit_up}
use Rattle.meaning.specs.Grid.{contents_right, link_bit, links_right, place, row_right, rows_right, same, sizes_right}
use Rattle.meaning.specs.Limits.{counts_right, within}
use Rattle.sheets.specs.declared.draft.Opening.{Opening}
use Rattle.sheets.specs.Texts.{Sheet, is_right, opening_right}
use Rattle.sheets.proofs.Partners.{low_bit}

same_is : (x y : Bool) → same x y ≡ true → x ≡ y
same_is true true e = refl
same_is true false e = sym e
same_is false true e = e
same_is false false e = refl

-- a word is told by its bits
pub same_word : (n x y : ℕ) → x < 2 ^ n → y < 2 ^ n → ((k : ℕ) → k < n → bit x k ≡ bit y k) → x ≡ y
same_word zero x y h l e = omega arith
same_word (suc n) x y h l e =
    let p : 2 ^ suc n ≡ 2 ^ n * 2 = pow-suc 2 n in
    let low : x % 2 ≡ y % 2 = sym (low_bit x) ∙ ap one_if (e 0 (omega arith)) ∙ low_bit y in
    let high : x / 2 ≡ y / 2 = same_word n (x / 2) (y / 2) (omega arith) (omega arith) (λ k m. sym (bit_up x k) ∙ e (suc k) (omega arith) ∙ bit_up y k) in
    omega arith

pub within_parts : (x most : ℕ) → within x most ≡ true → (1 ≤ x) × (x ≤ most)
within_parts x most e =
    let p = and_parts _ _ e in
    (leb-true _ _ p.0, leb-true _ _ p.1)

pub opening_parts : (o : Opening) → opening_right o ≡ true → (o.asked ≤ 9999) × (o.edition ≤ 9999) × (o.items ≤ 32)
opening_parts o e =
    let p = and_parts _ _ e in
    let q = and_parts _ _ p.1 in
    ((within_parts o.asked 9999 p.0).1, (within_parts o.edition 9999 q.1).1, (within_parts o.items 32 q.0).1)

module _ (s : Sheet) (ok : is_right s ≡ true) where
  abbrev n : ℕ
  n = s.opening.items

  outer : (opening_right s.opening ≡ true) × (sizes_right n s.counts s.links s.rows && contents_right n s.counts s.links s.rows ≡ true)
  outer = and_parts _ _ ok

  pub opening_in : opening_right s.opening ≡ true
  opening_in = outer.0

  pub asked_most : s.opening.asked ≤ 9999
  asked_most = (opening_parts s.opening opening_in).0

  pub edition_most : s.opening.edition ≤ 9999
  edition_most = (opening_parts s.opening opening_in).1

  pub items_most : n ≤ 32
  items_most = (opening_parts s.opening opening_in).2

  contents : contents_right n s.counts s.links s.rows ≡ true
  contents = (and_parts _ _ outer.1).1

  inner : (counts_right n s.counts ≡ true) × (links_right n s.links && rows_right n s.counts s.links s.rows ≡ true)
  inner = and_parts _ _ contents

  links_hold : links_right n s.links ≡ true
  links_hold = (and_parts _ _ inner.1).0

  rows_hold : rows_right n s.counts s.links s.rows ≡ true
  rows_hold = (and_parts _ _ inner.1).1

  pub count_in : (i : ℕ) → i < n → within (get_or s.counts i 0) 32 ≡ true
  count_in i l = every_at _ _ inner.0 i l

  pub count_most : (i : ℕ) → i < n → get_or s.counts i 0 ≤ 32
  count_most i l = (within_parts (get_or s.counts i 0) 32 (count_in i l)).1

  pub count_least : (i : ℕ) → i < n → 1 ≤ get_or s.counts i 0
  count_least i l = (within_parts (get_or s.counts i 0) 32 (count_in i l)).0

  link_at : (i : ℕ) → i < n → (ltb (get_or s.links i 0) (2 ^ n) && not (link_bit s.links i i) ≡ true) × (every n (λ j. same (link_bit s.links i j) (link_bit s.links j i)) ≡ true)
  link_at i l = and_parts _ _ (every_at _ _ links_hold i l)

  pub word_in : (i : ℕ) → i < n → get_or s.links i 0 < 2 ^ n
  word_in i l = ltb-true _ _ (and_parts _ _ (link_at i l).0).0

  pub own_not : (i : ℕ) → i < n → link_bit s.links i i ≡ false
  own_not i l = not-true (link_bit s.links i i) (and_parts _ _ (link_at i l).0).1

  pub mutual_links : (i j : ℕ) → i < n → j < n → link_bit s.links i j ≡ link_bit s.links j i
  mutual_links i j l k = same_is (link_bit s.links i j) (link_bit s.links j i) (every_at _ _ (link_at i l).1 j k)

  pub link_past : (i j : ℕ) → i < n → n ≤ j → link_bit s.links i j ≡ false
  link_past i j l k = bit_high (get_or s.links i 0) n j (word_in i l) k

  row_at : (j i a : ℕ) → j < n → i < j → a < 32 → row_right s.counts s.links s.rows j i a ≡ true
  row_at j i a l k m =
      every_at _ _
      (every_at _ _ (every_at _ _ rows_hold j l) i k) a m

  pub row_small : (i a j : ℕ) → i < j → j < n → a < 32 → link_bit s.links i j ≡ true → a < get_or s.counts i 0 → get_or s.rows (place i a j) 0 < 2 ^ get_or s.counts j 0
  row_small i a j k l m t o =
      let yes' : (link_bit s.links i j && ltb a (get_or s.counts i 0)) ≡ true = grind (arith, nat_tests) in
      ltb-true _ _
      (sym (cond-true _ _ _ yes') ∙ row_at j i a l k m)

  pub row_none : (i a j : ℕ) → i < j → j < n → a < 32 → (link_bit s.links i j ≡ false) ⊎ (get_or s.counts i 0 ≤ a) → get_or s.rows (place i a j) 0 ≡ 0
  row_none i a j k l m o =
      let not' : (link_bit s.links i j && ltb a (get_or s.counts i 0)) ≡ false = ⊎_elim (λ f. grind (arith, nat_tests)) (λ f. elim (cases_Bool (link_bit s.links i j)) [ inl t ↦ grind (arith, nat_tests) | inr t ↦ grind (arith, nat_tests) ]) o in
      eqb-true _ _
      (sym (cond-false _ _ _ not') ∙ row_at j i a l k m)
