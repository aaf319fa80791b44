-- Every accepted pair line keeps what holds of a draft, and is the line that the text has there.
use Rattle.std.proofs.Common.{◌≡◌, ℕ, ◌+◌, ◌-◌, ◌*◌, ◌^◌, ◌<◌, ◌≤◌, true, false, ◌&&◌, ◌||◌, eqb, ltb, ◌≢◌, ◌⊎◌, List, [], ◌∷◌, ◌++◌, map, length, get_or, decimal, sym, ap, ◌∙◌, subst, inl, inr, ⊎_elim, append_assoc, append-nil, arith}
use Rattle.std.proofs.Math.Path.{transport}
use Rattle.std.specs.List.{range_with_len, flat_map}
use Rattle.std.proofs.lemmas.List.FromFn.{map-range_with_len_more}
use Rattle.std.proofs.lemmas.List.{get_or-set_same, get_or-set_other, length-set}
use Rattle.std.proofs.lemmas.Bool.{cases_lt, cases_eq, cases_Bool, cond-true, cond-false, cond_both}
use Rattle.std.proofs.lemmas.Bool.Decides.{nat_tests}
use Rattle.meaning.specs.Grid.{link_bit, place}
use Rattle.meaning.proofs.Starts.{pair_within}
use Rattle.sheets.specs.declared.draft.Draft.{Draft}
use Rattle.sheets.specs.declared.draft.Due.{Due}
use Rattle.sheets.specs.Fields.{PairLine, are_bits, partners, word_of}
use Rattle.sheets.specs.Texts.{Sheet, sheet_of, first, second, is_given, pair_line, pair_lines, ◌·◌}
use Rattle.sheets.specs.Reading.{with_row}
use Rattle.sheets.proofs.Joins.{join_next, join_same, join_skip}
use Rattle.sheets.proofs.Partners.{map_same, word_small, partners_only}
use Rattle.sheets.proofs.Forms.{pair_text}
use Rattle.sheets.proofs.Steps.{Fits, due_next, due_same, same_option, same_pair}
use Rattle.sheets.proofs.Places.{first_of, second_of, place_apart, links_set, links_length, whole_pair, given_parts}
use Rattle.sheets.proofs.Drafted.{Begun, Done, Drafted, count_most, skipped, up_to}

-- a line of the pair q, for the option a of its first item i
module _ (d : Draft) (h : Drafted d) (line : PairLine) (fits : Fits d line) (zeros : are_bits line.partners ≡ true) where
  abbrev i : ℕ
  i = line.first

  abbrev j : ℕ
  j = line.second

  abbrev a : ℕ
  a = line.option

  abbrev w : ℕ
  w = word_of line.partners

  abbrev q : ℕ
  q = 32 * i + j

  abbrev pub next : Draft
  next = with_row d line

  abbrev s : Sheet
  s = sheet_of d

  abbrev t : Sheet
  t = sheet_of next

  j_most : j < 32
  j_most = omega (arith, h.items_most)

  a_most : a < 32
  a_most = omega (arith, count_most d h i)

  pub links_now : (x y : ℕ) → link_bit next.links x y ≡ ((link_bit d.links x y || (eqb i x && eqb j y)) || (eqb j x && eqb i y))
  links_now x y = links_set d.links i j (omega (arith, h.links_long, h.items_most)) (omega (arith, h.links_long, h.items_most)) x y

  place_in : place i a j < length d.rows
  place_in = let p = pair_within 32 j i j_most fits.low in omega (arith, h.rows_long, a_most)

  pub row_now : get_or next.rows (place i a j) 0 ≡ w
  row_now = get_or-set_same _ _ _ _ place_in

  pub row_other : (k : ℕ) → k ≢ place i a j → get_or next.rows k 0 ≡ get_or d.rows k 0
  row_other k ne = get_or-set_other d.rows (place i a j) k w 0 ne

  before : d.due.pair ≤ q
  before = ⊎_elim (λ z. z.1) (λ z. omega arith) fits.turn

  ends : (x : ℕ) → x ≤ q → Done next.due x
  ends x l =
      elim (cases_lt (a + 1) (get_or d.counts i 0)) [
        | inl more ↦ subst (λ (e : Due). Done e x) (sym (due_same (get_or d.counts i 0) q a more))
            (elim (cases_eq x q) [ inl same ↦ inr (same, omega arith) | inr other ↦ inl (omega (arith, other)) ])
        | inr last ↦ subst (λ (e : Due). Done e x) (sym (due_next (get_or d.counts i 0) q a last)) (inl (omega arith))
      ]

  next_pair : next.due.pair ≤ q + 1
  next_pair = cond_both (ltb (a + 1) (get_or d.counts i 0)) _ _ (λ (e : Due). e.pair ≤ q + 1) (λ _. omega arith) (λ _. omega arith)

  done_more : (x : ℕ) → Done d.due x → Done next.due x
  done_more x z = ends x (⊎_elim (λ l. omega (arith, before)) (λ l. omega (arith, before, l.0)) z)

  linked_still : (x y : ℕ) → x < y → link_bit next.links x y ≡ true → (link_bit d.links x y ≡ true) ⊎ ((x ≡ i) × (y ≡ j))
  linked_still x y l e =
      elim (cases_Bool (link_bit d.links x y)) [
        | inl old ↦ inl old
        | inr new ↦
            let n = links_now x y in
            inr (grind (arith, nat_tests), grind (arith, nat_tests))
      ]

  linked_before : (x y : ℕ) → link_bit next.links x y ≡ false → link_bit d.links x y ≡ false
  linked_before x y e = let n = links_now x y in grind (arith, nat_tests)

  linked_here : link_bit next.links i j ≡ true
  linked_here = let n = links_now i j in grind (arith, nat_tests)

  same_place : (x b y : ℕ) → x < y → b < 32 → place x b y ≡ place i a j → (x ≡ i) × (b ≡ a) × (y ≡ j)
  same_place x b y l k e = place_apart x b y i a j l fits.low k a_most e

  begun_next : 0 < next.due.option → Begun next
  begun_next z =
      elim (cases_lt (a + 1) (get_or d.counts i 0)) [
        | inl more ↦
            let e = due_same (get_or d.counts i 0) q a more in
            record { i = i; j = j; low = fits.low; there = fits.there; is = same_pair e; more = omega (arith, same_option e) }
        | inr last ↦ absurd (omega (arith, same_option (due_next (get_or d.counts i 0) q a last)))
      ]

  pub drafted_next : Drafted next
  drafted_next = record {
    opening_in = h.opening_in;
    items_most = h.items_most;
    counts_long = h.counts_long;
    links_long = links_length d.links i j ∙ h.links_long;
    rows_long = length-set d.rows (place i a j) w ∙ h.rows_long;
    counts_in = h.counts_in;
    counts_past = h.counts_past;
    own = λ x. let n = links_now x x in let o = h.own x in grind (arith, nat_tests);
    mutual_links = λ x y. let n = links_now x y in let o = links_now y x in let m = h.mutual_links x y in grind (arith, nat_tests);
    linked_in = λ x y l e. ⊎_elim (h.linked_in x y l) (λ z. omega (arith, z.1)) (linked_still x y l e);
    linked_done = λ x y l e. ⊎_elim (λ z. done_more (32 * x + y) (h.linked_done x y l z)) (λ z. ends (32 * x + y) (omega (arith, z.0, z.1))) (linked_still x y l e);
    pair_most = omega (arith, next_pair, h.items_most);
    begun = begun_next;
    rows_past = λ k l. let p = pair_within d.opening.items j i fits.there fits.low in row_other k (λ e. omega (arith, a_most)) ∙ h.rows_past k l;
    rows_small = λ x b y l k m. elim (cases_eq (place x b y) (place i a j)) [
      | inl e ↦
          let z = same_place x b y l m e in
          let c : length line.partners ≡ get_or d.counts y 0 = fits.long ∙ ap (λ (v : ℕ). get_or d.counts v 0) (sym z.2) in
          let v : w ≡ get_or next.rows (place x b y) 0 = sym (ap (λ (v : ℕ). get_or next.rows v 0) e ∙ row_now) in
          transport (λ n. v n < 2 ^ c n) (word_small line.partners zeros)
      | inr ne ↦ subst (λ (v : ℕ). v < 2 ^ get_or d.counts y 0) (sym (row_other (place x b y) ne)) (h.rows_small x b y l k m)
    ];
    rows_free = λ x b y l k m o. elim (cases_eq (place x b y) (place i a j)) [
      | inl e ↦
          let z = same_place x b y l m e in
          ⊎_elim
          (λ f. let g : link_bit next.links x y ≡ true = (λ n. link_bit next.links (z.0 n) (z.2 n)) ∙ linked_here in
          absurd cc)
          (λ f. absurd (let c : get_or d.counts x 0 ≡ get_or d.counts i 0 = ap (λ (v : ℕ). get_or d.counts v 0) z.0 in omega (arith, z.1))) o
      | inr ne ↦ row_other (place x b y) ne ∙ h.rows_free x b y l k m (⊎_elim (λ f. inl (linked_before x y f)) (λ f. inr f) o)
    ];
  }

  given_same : (r : ℕ) → r ≢ q → is_given t r ≡ is_given s r
  given_same r ne = let n = links_now (first r) (second r) in let e = whole_pair r in grind (arith, nat_tests)

  pub given_here : is_given t q ≡ true
  given_here =
      let e : first q ≡ i = first_of i j j_most in
      let f : second q ≡ j = second_of i j j_most in
      (λ n. (ltb (e n) (f n) && ltb (f n) d.opening.items) && link_bit next.links (e n) (f n)) ∙ (let l = linked_here in grind (arith, nat_tests))

  line_same : (r b : ℕ) → first r < second r → b < 32 → (r ≡ q → b ≡ a → ⊥) → pair_line t r b ≡ pair_line s r b
  line_same r b l k other =
      let e = whole_pair r in
      let away : place (first r) b (second r) ≢ place i a j = λ z. let y = same_place (first r) b (second r) l k z in other (omega (arith, y.0, y.2)) y.1 in
      ap (λ (v : ℕ). decimal (first r) · (decimal (second r) · (decimal b · partners (get_or d.counts (second r) 0) v))) (row_other (place (first r) b (second r)) away)

  lines_same : (r : ℕ) → r ≢ q → pair_lines t r ≡ pair_lines s r
  lines_same r ne =
      elim (cases_Bool (is_given s r)) [
        | inl yes' ↦
            cond-true _ _ _ (given_same r ne ∙ yes')
            ∙ map_same _ _ _ _ (λ b l k. line_same r b (given_parts s r yes').low (omega (arith, count_most d h (first r))) (λ e _. ne e))
            ∙ sym (cond-true _ _ _ yes')
        | inr not' ↦
            cond-false _ _ _ (given_same r ne ∙ not')
            ∙ sym (cond-false _ _ _ not')
      ]

  before_same : flat_map (pair_lines t) (range_with_len 0 q) ≡ flat_map (pair_lines s) (range_with_len 0 q)
  before_same = join_same (pair_lines t) (pair_lines s) 0 q (λ r l. lines_same r (λ e. omega arith))

  seen_same : up_to t (record { pair = q; option = a }) ≡ up_to s d.due
  seen_same =
      elim fits.turn [
        | inl z ↦
            let m : q ≡ d.due.pair + (q - d.due.pair) = omega (arith, z.1) in
            let zero_a : a ≡ 0 = fits.due ∙ z.0 in
            (λ n. before_same n ++ map (pair_line t q) (range_with_len 0 (zero_a n)))
            ∙ ap (λ (v : List (List ℕ)). v ++ [])
            (ap (λ (v : ℕ). flat_map (pair_lines s) (range_with_len 0 v)) m ∙ join_skip (pair_lines s) d.due.pair (q - d.due.pair) (λ r k l. skipped d h z.0 r k))
            ∙ ap (λ (v : ℕ). up_to s (record { pair = d.due.pair; option = v })) (sym z.0)
        | inr e ↦
            (λ n. before_same n ++ map_same (pair_line t q) (pair_line s q) 0 a
            (λ b l k. line_same q b (given_parts t q given_here).low (omega (arith, a_most)) (λ _ f. omega arith)) n)
            ∙ (λ n. up_to s (record { pair = sym e n; option = fits.due n }))
      ]

  pub line_is : pair_text line ≡ pair_line t q a
  line_is =
      let f : i ≡ first q = sym (first_of i j j_most) in
      let g : j ≡ second q = sym (second_of i j j_most) in
      let r : get_or next.rows (place (first q) a (second q)) 0 ≡ w = (λ n. get_or next.rows (place (sym f n) a (sym g n)) 0) ∙ row_now in
      let b : line.partners ≡ partners (get_or d.counts (second q) 0) (get_or next.rows (place (first q) a (second q)) 0) =
      partners_only line.partners zeros ∙ (λ n. partners ((fits.long ∙ ap (λ (v : ℕ). get_or d.counts v 0) g) n) (sym r n)) in
      (λ n. decimal (f n) · (decimal (g n) · (decimal a · b n)))

  pub seen_next : (ps : List (List ℕ)) → ps ≡ up_to s d.due → ps ++ pair_text line ∷ [] ≡ up_to t next.due
  seen_next ps e =
      let one : ps ++ pair_text line ∷ [] ≡ up_to t (record { pair = q; option = a + 1 }) =
      (λ n. (e ∙ sym seen_same) n ++ line_is n ∷ []) ∙ append_assoc (flat_map (pair_lines t) (range_with_len 0 q)) (map (pair_line t q) (range_with_len 0 a)) (pair_line t q a ∷ [])
      ∙ ap (λ (v : List (List ℕ)). flat_map (pair_lines t) (range_with_len 0 q) ++ v) (sym (map-range_with_len_more (pair_line t q) 0 a a (omega arith))) in
      elim (cases_lt (a + 1) (get_or d.counts i 0)) [
        | inl more ↦ one ∙ ap (up_to t) (sym (due_same (get_or d.counts i 0) q a more))
        | inr last ↦
            let c : a + 1 ≡ get_or d.counts (first q) 0 = omega (arith, fits.an_option, ap (λ (v : ℕ). get_or d.counts v 0) (first_of i j j_most)) in
            let b : map (pair_line t q) (range_with_len 0 (a + 1)) ≡ pair_lines t q =
            ap (λ (v : ℕ). map (pair_line t q) (range_with_len 0 v)) c ∙ sym (cond-true _ _ _ given_here) in
            one ∙ ap (λ (v : List (List ℕ)). flat_map (pair_lines t) (range_with_len 0 q) ++ v) b ∙ sym (join_next (pair_lines t) q)
            ∙ sym (append-nil (flat_map (pair_lines t) (range_with_len 0 (q + 1)))) ∙ ap (up_to t) (sym (due_next (get_or d.counts i 0) q a last))
      ]
