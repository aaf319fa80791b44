-- An accepted sheet is the text of the junction that was read, which the grid book's check accepts.
use Rattle.std.proofs.Common.{◌≡◌, ℕ, zero, ◌+◌, ◌^◌, ◌<◌, ◌≤◌, Bool, true, false, not, ◌&&◌, ltb, leb, ◌⊎◌, List, [], ◌∷◌, ◌++◌, map, length, get_or, Ok, sym, refl, ap, ◌∙◌, subst, inl, inr, append-nil, arith}
use Rattle.std.specs.List.{range_with_len, flat_map}
use Rattle.std.proofs.lemmas.List.{length-replicate, nil_from_length}
use Rattle.std.proofs.lemmas.Bool.{and_parts, and_from, cases_lt, cases_eq, cases_order, cases_Bool, cond-true, cond-false, eqb-true, ltb-true, leb-true, lt-ltb, le-leb, eq-eqb}
use Rattle.std.proofs.lemmas.Bool.Decides.{nat_tests}
use Rattle.bits.specs.Below.{every}
use Rattle.bits.proofs.Belows.{every_i, every_at}
use Rattle.bits.proofs.Tests.{to_true, of_true}
use Rattle.bits.proofs.Words.{high_bit, some_bit}
use Rattle.meaning.specs.Grid.{contents_right, link_bit, link_right, links_right, row_right, rows_for, rows_right, same}
use Rattle.meaning.specs.Limits.{counts_right}
use Rattle.sheets.specs.declared.draft.Draft.{Draft}
use Rattle.sheets.specs.declared.draft.Opening.{Opening}
use Rattle.sheets.specs.Fields.{cut}
use Rattle.sheets.specs.Texts.{opening_right, all_pair_lines, ended, lines_of, is_right, sheet_of, text_of, opening_line, opening_names, item_names, item_line, pair_names}
use Rattle.sheets.specs.Reading.{closing, follow, start, is_whole}
use Rattle.sheets.specs.Law.{Accepted, BlankElse, OnlyTexts}
use Rattle.sheets.proofs.Cutting.{cut_joins}
use Rattle.sheets.proofs.Drafted.{Drafted}
use Rattle.sheets.proofs.Right.{opening_parts}
use Rattle.sheets.proofs.Sound.{Items, sound_items, nothing_at}
use Rattle.sheets.proofs.Steps.{cond_in, names_step, opened, opening_step, then_ok}

-- the first lines
pub starts : (o : Opening) → opening_right o ≡ true → Items (opened start o) 0
unfolding start
starts o h = record {
  opening_in = h;
  items_most = (opening_parts o h).2;
  counts_long = length-replicate 32 zero;
  counts_in = λ x l. absurd (omega arith);
  counts_past = λ x l. nothing_at 32 x;
  no_links = refl;
  no_rows = refl;
  first_due = refl;
}

pub record Read (ls : List (List ℕ)) (c : Draft) : Type 0 where
  pub drafted : Drafted c
  pub text : ls ≡ lines_of (sheet_of c)

pub sound_lines : (ls : List (List ℕ)) (c : Draft) → follow start 1 ls ≡ Ok c → 4 + c.opening.items < 1 + length ls → c.due.option ≡ 0 → Read ls c
sound_lines [] c f w o = absurd (omega arith)
sound_lines (x ∷ []) c f w o = absurd (omega arith)
sound_lines (x ∷ y ∷ []) c f w o = absurd (omega arith)
sound_lines (x ∷ y ∷ z ∷ ls) c f w o =
    let p = names_step start 1 opening_names x (y ∷ z ∷ ls) c refl f in
    let q = opening_step start y (z ∷ ls) c p.1 in
    let u = names_step (opened start q.0) 3 item_names z ls c refl q.3 in
    let v = sound_items q.0.items (opened start q.0) 0 4 ls c (starts q.0 q.2) (omega arith) (omega arith) u.1 (omega arith) o in
    record {
      drafted = v.drafted;
      text = λ n. p.0 n ∷ (q.1 ∙ ap opening_line (sym v.fixed.opening)) n ∷ u.0 n
          ∷ (v.text ∙ ap (λ (o : Opening). map (item_line (sheet_of c)) (range_with_len 0 o.items) ++ (pair_names ∷ all_pair_lines (sheet_of c))) (sym v.fixed.opening)) n;
    }

-- what was read is right
module _ (c : Draft) (h : Drafted c) where
  counts_right_now : counts_right c.opening.items c.counts ≡ true
  counts_right_now =
      to_true _
      (every_i _ _ (λ i l. let b = h.counts_in i l in of_true (and_from _ _ (le-leb _ _ b.0) (le-leb _ _ b.1))))

  word_in : (i : ℕ) → i < c.opening.items → get_or c.links i 0 < 2 ^ c.opening.items
  word_in i l =
      elim (cases_lt (get_or c.links i 0) (2 ^ c.opening.items)) [
        | inl less ↦ less
        | inr more ↦ let b = high_bit (get_or c.links i 0) c.opening.items more in absurd (omega (arith, h.linked_in i b.0 (omega (arith, b.1)) (to_true _ b.2), b.1))
      ]

  same_yes : (x y : Bool) → x ≡ y → same x y ≡ true
  same_yes true y e = sym e
  same_yes false y e = ap not (sym e)

  link_right_now : (i : ℕ) → i < c.opening.items → link_right c.opening.items c.links i ≡ true
  link_right_now i l =
      and_from _ _
      (and_from _ _ (lt-ltb _ _ (word_in i l)) (ap not (h.own i)))
      (to_true _
      (every_i _ _ (λ j k. of_true (same_yes (link_bit c.links i j) (link_bit c.links j i) (h.mutual_links i j)))))

  links_right_now : links_right c.opening.items c.links ≡ true
  links_right_now = to_true _ (every_i _ _ (λ i l. of_true (link_right_now i l)))

  row_right_now : (j i a : ℕ) → j < c.opening.items → i < j → a < 32 → row_right c.counts c.links c.rows j i a ≡ true
  row_right_now j i a l k m =
      elim (cases_Bool (link_bit c.links i j && ltb a (get_or c.counts i 0))) [
        | inl yes' ↦
            cond-true _ _ _ yes'
            ∙ lt-ltb _ _ (h.rows_small i a j k l m)
        | inr not' ↦
            let free : (link_bit c.links i j ≡ false) ⊎ (get_or c.counts i 0 ≤ a) =
            elim (cases_Bool (link_bit c.links i j)) [ inl t ↦ inr (grind (arith, nat_tests)) | inr f ↦ inl f ] in
            cond-false _ _ _ not'
            ∙ eq-eqb _ _ (h.rows_free i a j k l m free)
      ]

  rows_right_now : rows_right c.opening.items c.counts c.links c.rows ≡ true
  rows_right_now =
      to_true _
      (every_i _ _ (λ j l.
      every_i _ _ (λ i k.
      every_i _ _ (λ a m. of_true (row_right_now j i a l k m)))))

  contents_now : contents_right c.opening.items c.counts c.links c.rows ≡ true
  contents_now =
      and_from _ _ counts_right_now
      (and_from _ _ links_right_now rows_right_now)

  links_past : (i : ℕ) → c.opening.items ≤ i → get_or c.links i 0 ≡ 0
  links_past i l =
      elim (cases_eq (get_or c.links i 0) 0) [
        | inl none ↦ none
        | inr more ↦
            let b = some_bit (get_or c.links i 0) more in
            let t : link_bit c.links i b.0 ≡ true = to_true _ b.1 in
            absurd (elim (cases_order i b.0) [
              | inl e ↦ cc (ap (λ (k : ℕ). link_bit c.links i k) e ∙ t, h.own i)
              | inr other ↦ elim other [
                | inl up ↦ omega (arith, h.linked_in i b.0 up t)
                | inr down ↦ omega (arith, h.linked_in b.0 i down (h.mutual_links b.0 i ∙ t))
              ]
            ])
      ]

  blank_now : BlankElse c
  blank_now = record { counts_long = h.counts_long; links_long = h.links_long; rows_long = h.rows_long; counts = h.counts_past; links = links_past; rows = h.rows_past }

rows_enough : (n : ℕ) → n ≤ 32 → rows_for n ≤ 15872
unfolding every
rows_enough n l = leb-true _ _ (every_at 33 (λ k. leb (rows_for k) 15872) refl n (omega arith))

pub right_now : (c : Draft) → Drafted c → is_right (sheet_of c) ≡ true
right_now c h =
    and_from _ _ h.opening_in
    (and_from _ _
    (and_from _ _
    (and_from _ _ (le-leb c.opening.items (length c.counts) (omega (arith, h.items_most, h.counts_long))) (le-leb c.opening.items (length c.links) (omega (arith, h.items_most, h.links_long))))
    (le-leb (rows_for c.opening.items) (length c.rows) (subst (λ (n : ℕ). rows_for c.opening.items ≤ n) (sym h.rows_long) (rows_enough c.opening.items h.items_most))))
    (contents_now c h))

pub only_texts : OnlyTexts
only_texts b d e =
    let r = then_ok (follow start 1 (cut b).lines) (closing (1 + length (cut b).lines) (cut b).rest) d e in
    let p = cond_in (is_whole r.0 (1 + length (cut b).lines) (cut b).rest) (Ok r.0) _ d r.2 in
    let is : r.0 ≡ d = let z = p.1 in cc in
    let q = and_parts _ _ p.0 in
    let w = and_parts _ _ q.1 in
    let v = sound_lines (cut b).lines r.0 r.1 (ltb-true _ _ w.0) (eqb-true _ _ w.1) in
    let none : (cut b).rest ≡ [] = nil_from_length (cut b).rest (eqb-true _ _ q.0) in
    let text : b ≡ text_of (sheet_of r.0) =
    sym (cut_joins b) ∙ ap (λ (x : List ℕ). flat_map ended (cut b).lines ++ x) none ∙ append-nil (flat_map ended (cut b).lines) ∙ ap (flat_map ended) v.text in
    subst (Accepted b) is (record { text = text; right = right_now r.0 v.drafted; blank = blank_now r.0 v.drafted })
