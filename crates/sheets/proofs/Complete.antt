-- The text of a right junction is accepted, and read as that junction.
use Rattle.std.proofs.Common.{◌≡◌, ℕ, zero, suc, ◌+◌, ◌-◌, ◌*◌, ◌<◌, ◌≤◌, Bool, true, false, cond, ◌&&◌, ltb, ◌⊎◌, List, [], ◌∷◌, ◌++◌, map, length, get_or, set, Ok, sym, refl, ap, ◌∙◌, subst, inl, inr, arith}
use Rattle.std.specs.List.{range_with_len, flat_map}
use Rattle.std.proofs.lemmas.List.FromFn.{length-map-range_with_len}
use Rattle.std.proofs.lemmas.List.{get_or-set_same, get_or-set_other}
use Rattle.std.proofs.lemmas.Bool.{and_from, cases_lt, cases_eq, cases_Bool, cond-true, cond-false, eq-eqb, lt-ltb}
use Rattle.std.proofs.lemmas.Bool.Decides.{nat_tests}
use Rattle.meaning.specs.Grid.{link_bit, place}
use Rattle.sheets.specs.declared.draft.Draft.{Draft}
use Rattle.sheets.specs.Texts.{all_pair_lines, item_lines, Sheet, first, is_given, item_line, item_names, lines_of, opening_line, opening_names, pair_line, pair_lines, pair_names, is_right, second}
use Rattle.sheets.specs.Reading.{follow, start, step, with_count}
use Rattle.sheets.specs.Reading as reading
use Rattle.sheets.proofs.Agree.{Agree, AtTurn, accepted, agree_next, due_last, due_more, given_yet, next}
use Rattle.sheets.proofs.Forms.{item_back, opening_back}
use Rattle.sheets.proofs.Right as right
use Rattle.sheets.proofs.Accepted.{starts}
use Rattle.sheets.proofs.Sound.{Items, drafted_first, items_next, no_link, no_row, option_first, pair_first}
use Rattle.sheets.proofs.Steps.{after_line, after_lines, names_back, opened, pass, step_item, step_names, same_items, same_pair, same_option}
use Rattle.sheets.proofs.Places.{given_parts}

-- some draft is reached by the lines, of which P holds
abbrev pub Reaches : Draft → ℕ → List (List ℕ) → (Draft → Type 0) → Type 0
Reaches d k ls P = (c : Draft) × (follow d k ls ≡ Ok c) × P c

one_line : (d b : Draft) (k : ℕ) (l : List ℕ) (ls : List (List ℕ)) (P : Draft → Type 0) → step d k l ≡ Ok b → Reaches b (k + 1) ls P → Reaches d k (l ∷ ls) P
one_line d b k l ls P e r = (r.0, after_line d b k l ls e ∙ r.1, r.2)

more_lines : (d : Draft) (k : ℕ) (xs ys : List (List ℕ)) (P Q : Draft → Type 0) → Reaches d k xs P → ((c : Draft) → P c → Reaches c (k + length xs) ys Q) → Reaches d k (xs ++ ys) Q
more_lines d k xs ys P Q r f =
    let t = f r.0 r.2 in
    (t.0, after_lines d k xs ys (Ok r.0) r.1 ∙ t.1, t.2)

module _ (s : Sheet) (ok : is_right s ≡ true) where
  -- between two pairs
  pub record Between (q : ℕ) (d : Draft) : Type 0 where
    pub agree : Agree s d q 0
    pub none : d.due.option ≡ 0
    pub low : d.due.pair ≤ q

  unlinked : (q x y : ℕ) → q < 1024 → 32 * x + y ≡ q → x < y → y < s.opening.items → is_given s q ≡ false → link_bit s.links x y ≡ false
  unlinked q x y short e l k none =
      let m : y < 32 = omega (arith, right.items_most s ok) in
      let f : first q ≡ x = omega arith in
      let h : second q ≡ y = omega arith in
      let t : (ltb x y && ltb y s.opening.items) && link_bit s.links x y ≡ false = (λ v. (ltb (sym f v) (sym h v) && ltb (sym h v) s.opening.items) && link_bit s.links (sym f v) (sym h v)) ∙ none in
      grind (arith, nat_tests)

  agree_on : (d : Draft) (q a : ℕ) → q < 1024 → Agree s d q a → ((a ≡ 0) × (is_given s q ≡ false)) ⊎ ((1 ≤ a) × (a ≡ get_or s.counts (first q) 0)) → Agree s d (q + 1) 0
  agree_on d q a short g way = record {
    drafted = g.drafted;
    opening = g.opening;
    counts = g.counts;
    links = λ x y l k.
        let o = g.links x y l k in
        let m : y < 32 = omega (arith, right.items_most s ok) in
        elim (cases_eq (32 * x + y) q) [
          | inl e ↦ elim way [
            | inl z ↦ (let u = unlinked q x y short e l k z.1 in grind (arith, nat_tests))
            | inr z ↦ (let u = z.0 in grind (arith, nat_tests))
          ]
          | inr ne ↦ grind (arith, nat_tests)
        ];
    rows = λ x b y l k m.
        let o = g.rows x b y l k m in
        let most : y < 32 = omega (arith, right.items_most s ok) in
        elim (cases_eq (32 * x + y) q) [
          | inl e ↦
              let f : first q ≡ x = omega arith in
              let t : given_yet (q + 1) 0 (32 * x + y) b ≡ true = grind (arith, nat_tests) in
              let none_then : a ≤ b → get_or s.rows (place x b y) 0 ≡ 0 = λ ab. elim way [
                | inl z ↦ right.row_none s ok x b y l k m (inl (unlinked q x y short e l k z.1))
                | inr z ↦ right.row_none s ok x b y l k m (inr (omega (arith, z.1, ap (λ (v : ℕ). get_or s.counts v 0) f)))
              ] in
              elim (cases_lt b a) [
                | inl less ↦
                    let u : given_yet q a (32 * x + y) b ≡ true = grind (arith, nat_tests) in
                    o ∙ cond-true _ _ _ u ∙ sym (cond-true _ _ _ t)
                | inr more ↦
                    let u : given_yet q a (32 * x + y) b ≡ false = grind (arith, nat_tests) in
                    o ∙ cond-false _ _ _ u ∙ sym (none_then more) ∙ sym (cond-true _ _ _ t)
              ]
          | inr ne ↦
              let t : given_yet q a (32 * x + y) b ≡ given_yet (q + 1) 0 (32 * x + y) b = grind (arith, nat_tests) in
              o ∙ ap (λ (v : Bool). cond v (get_or s.rows (place x b y) 0) 0) t
        ];
  }

  -- the lines of a pair from its option a on
  one_pair : (m : ℕ) (d : Draft) (k q a : ℕ) → AtTurn s d q a → a + suc m ≡ get_or s.counts (first q) 0 → 4 + s.opening.items < k → Reaches d k (map (pair_line s q) (range_with_len a (suc m))) (Between (q + 1))
  one_pair zero d k q a t e l =
      let last = due_last s ok d q a t (omega arith) in
      let b : Between (q + 1) (next s ok d q a t) = record {
        agree = agree_on (next s ok d q a t) q (a + 1) t.short (agree_next s ok d q a t) (inr (omega arith, omega arith));
        none = same_option last;
        low = omega (arith, same_pair last);
      } in
      one_line d (next s ok d q a t) k (pair_line s q a) [] (Between (q + 1)) (accepted s ok d q a t k (omega (arith, same_items t.agree.opening))) (next s ok d q a t, refl, b)
  one_pair (suc m) d k q a t e l =
      let more = due_more s ok d q a t (omega arith) in
      let t' : AtTurn s (next s ok d q a t) q (a + 1) = record {
        agree = agree_next s ok d q a t;
        given = t.given;
        short = t.short;
        an_option = omega arith;
        due = sym (same_option more);
        turn = inr (same_pair more);
      } in
      one_line d (next s ok d q a t) k (pair_line s q a) (map (pair_line s q) (range_with_len (a + 1) (suc m))) (Between (q + 1)) (accepted s ok d q a t k (omega (arith, same_items t.agree.opening)))
      (one_pair m (next s ok d q a t) (k + 1) q (a + 1) t' (omega arith) (omega arith))

  pair_block : (d : Draft) (k q : ℕ) → q < 1024 → Between q d → 4 + s.opening.items < k → Reaches d k (pair_lines s q) (Between (q + 1))
  pair_block d k q short b l =
      elim (cases_Bool (is_given s q)) [
        | inl yes' ↦
            let p = given_parts s q yes' in
            let least = right.count_least s ok (first q) (omega (arith, p.low, p.there)) in
            let some : suc (get_or s.counts (first q) 0 - 1) ≡ get_or s.counts (first q) 0 = omega (arith, least) in
            subst (λ (ls : List (List ℕ)). Reaches d k ls (Between (q + 1)))
            (ap (λ (v : ℕ). map (pair_line s q) (range_with_len 0 v)) some ∙ sym (cond-true _ _ _ yes'))
            (one_pair (get_or s.counts (first q) 0 - 1) d k q 0
            (record { agree = b.agree; given = yes'; short = short; an_option = least; due = sym b.none; turn = inl (b.none, b.low) }) (omega (arith, some)) l)
        | inr not' ↦
            subst (λ (ls : List (List ℕ)). Reaches d k ls (Between (q + 1)))
            (sym (cond-false _ _ _ not'))
            (d, refl, record { agree = agree_on d q 0 short b.agree (inl (refl, not')); none = b.none; low = omega (arith, b.low) })
      ]

  all_blocks : (m : ℕ) (d : Draft) (k q : ℕ) → q + m ≡ 1024 → Between q d → 4 + s.opening.items < k → Reaches d k (flat_map (pair_lines s) (range_with_len q m)) (Between 1024)
  all_blocks zero d k q e b l = (d, refl, subst (λ (v : ℕ). Between v d) (omega arith) b)
  all_blocks (suc m) d k q e b l =
      more_lines d k (pair_lines s q) (flat_map (pair_lines s) (range_with_len (q + 1) m)) (Between (q + 1)) (Between 1024) (pair_block d k q (omega arith) b l)
      (λ c p. all_blocks m c (k + length (pair_lines s q)) (q + 1) (omega arith) p (omega arith))

  -- with the first i items read
  record ReadItems (i : ℕ) (d : Draft) : Type 0 where
    items : Items d i
    opening : s.opening ≡ d.opening
    counts : (x : ℕ) → x < i → get_or s.counts x 0 ≡ get_or d.counts x 0

  item_accepted : (d : Draft) (i : ℕ) → i < s.opening.items → ReadItems i d → step d (4 + i) (item_line s i) ≡ Ok (with_count d i (get_or s.counts i 0))
  item_accepted d i l b =
      let w = right.count_in s ok i l in
      step_item d (4 + i) (item_line s i) (omega arith) (omega (arith, same_items b.opening))
      ∙ ap (reading.item d (4 + i)) (item_back (record { item = i; options = get_or s.counts i 0 }) (omega (arith, right.items_most s ok)) (omega (arith, right.count_most s ok i l)))
      ∙ pass _ _ _ (and_from _ _ (lt-ltb _ _ (omega (arith, same_items b.opening))) w)
      ∙ pass _ _ _ (eq-eqb _ _ refl)

  item_read : (d : Draft) (i : ℕ) → i < s.opening.items → ReadItems i d → ReadItems (i + 1) (with_count d i (get_or s.counts i 0))
  item_read d i l b = record {
    items = items_next d i (get_or s.counts i 0) b.items (omega (arith, same_items b.opening)) (right.count_in s ok i l);
    opening = b.opening;
    counts = λ x k. elim (cases_eq x i) [
      | inl e ↦ ap (λ (v : ℕ). get_or s.counts v 0) e ∙ sym (ap (λ (v : ℕ). get_or (set d.counts i (get_or s.counts i 0)) v 0) e ∙ get_or-set_same d.counts i (get_or s.counts i 0) 0 (omega (arith, b.items.counts_long, b.items.items_most, same_items b.opening)))
      | inr ne ↦ b.counts x (omega (arith, ne)) ∙ sym (get_or-set_other d.counts i x (get_or s.counts i 0) 0 ne)
    ];
  }

  all_items : (m : ℕ) (d : Draft) (i k : ℕ) → i + m ≡ s.opening.items → k ≡ 4 + i → ReadItems i d → Reaches d k (map (item_line s) (range_with_len i m)) (ReadItems s.opening.items)
  all_items zero d i k e f b = (d, refl, subst (λ (v : ℕ). ReadItems v d) (omega arith) b)
  all_items (suc m) d i k e f b =
      let l : i < s.opening.items = omega arith in
      one_line d (with_count d i (get_or s.counts i 0)) k (item_line s i) (map (item_line s) (range_with_len (i + 1) m)) (ReadItems s.opening.items) (ap (λ (v : ℕ). step d v (item_line s i)) f ∙ item_accepted d i l b)
      (all_items m (with_count d i (get_or s.counts i 0)) (i + 1) (k + 1) (omega arith) (omega arith) (item_read d i l b))

  first_pair : (d : Draft) → ReadItems s.opening.items d → Between 0 d
  first_pair d b =
      let h = drafted_first d s.opening.items b.items (same_items b.opening) in
      record {
        agree = record {
          drafted = h;
          opening = b.opening;
          counts = b.counts;
          links = λ x y l k. no_link d s.opening.items b.items x y ∙ sym (grind (arith, nat_tests));
          rows = λ x c y l k m. no_row d s.opening.items b.items (place x c y) ∙ sym (cond-false (given_yet 0 0 (32 * x + y) c) (get_or s.rows (place x c y) 0) 0 (grind (arith, nat_tests)));
        };
        none = option_first d s.opening.items b.items;
        low = omega (arith, pair_first d s.opening.items b.items);
      }

  names_accepted : (d : Draft) → s.opening.items ≡ d.opening.items → step d (4 + s.opening.items) pair_names ≡ Ok d
  names_accepted d e = step_names d (4 + s.opening.items) pair_names (omega arith) (omega arith) ∙ names_back d (4 + s.opening.items) pair_names

  after_items : (d : Draft) (k : ℕ) → k ≡ 4 + s.opening.items → ReadItems s.opening.items d → Reaches d k (pair_names ∷ all_pair_lines s) (Between 1024)
  after_items d k e b =
      one_line d d k pair_names (all_pair_lines s) (Between 1024) (ap (λ (v : ℕ). step d v pair_names) e ∙ names_accepted d (same_items b.opening))
      (all_blocks 1024 d (k + 1) 0 (omega arith) (first_pair d b) (omega arith))

  from_items : (d : Draft) → ReadItems 0 d → Reaches d 4 (item_lines s ++ (pair_names ∷ all_pair_lines s)) (Between 1024)
  from_items d b =
      let long = length-map-range_with_len (item_line s) 0 s.opening.items in
      more_lines d 4 (item_lines s) _ (ReadItems s.opening.items) (Between 1024) (all_items s.opening.items d 0 4 (omega arith) (omega arith) b)
      (λ c h. after_items c (4 + length (item_lines s)) (omega (arith, long)) h)

  opening_accepted : (d : Draft) → step d 2 (opening_line s.opening) ≡ Ok (opened d s.opening)
  opening_accepted d =
      ap (reading.opening d 2) (opening_back s.opening (omega (arith, right.asked_most s ok)) (omega (arith, right.edition_most s ok)) (omega (arith, right.items_most s ok)))
      ∙ cond-true _ _ _ (right.opening_in s ok)

  pub whole_text : Reaches start 1 (lines_of s) (Between 1024)
  whole_text =
      one_line start start 1 opening_names (opening_line s.opening ∷ item_names ∷ (item_lines s ++ (pair_names ∷ all_pair_lines s))) (Between 1024) (names_back start 1 opening_names)
      (one_line start (opened start s.opening) 2 (opening_line s.opening) (item_names ∷ (item_lines s ++ (pair_names ∷ all_pair_lines s))) (Between 1024) (opening_accepted start)
      (one_line (opened start s.opening) (opened start s.opening) 3 item_names (item_lines s ++ (pair_names ∷ all_pair_lines s)) (Between 1024) (names_back (opened start s.opening) 3 item_names)
      (from_items (opened start s.opening)
      (record { items = starts s.opening (right.opening_in s ok); opening = refl; counts = λ x l. absurd (omega arith) }))))
