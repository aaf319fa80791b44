-- What is read was the text of a right junction.
-- Fixed: the later draft has the editions and the items of the earlier one, and its counts below i
-- Items d i: what holds of a draft whose first i items are read, and nothing after them
use Rattle.std.proofs.Common.{◌≡◌, ℕ, zero, suc, ◌+◌, ◌-◌, ◌^◌, ◌<◌, ◌≤◌, true, false, List, [], ◌∷◌, ◌++◌, map, length, get_or, set, replicate, Ok, decimal, Result, sym, refl, ap, ◌∙◌, subst, inl, inr, append_assoc, append-nil, arith, pow_pos}
use Rattle.std.specs.List.{range_with_len, flat_map}
use Rattle.std.proofs.lemmas.List.{get_or-set_same, get_or-set_other, length-set, length-replicate, get_or-replicate, get_or_past}
use Rattle.std.proofs.lemmas.Bool.{cases_lt, cases_eq}
use Rattle.bits.proofs.Words.{bit_none}
use Rattle.meaning.specs.Grid.{link_bit, place}
use Rattle.meaning.specs.Limits.{within}
use Rattle.meaning.specs.declared.refusal.Refusal.{Refusal}
use Rattle.sheets.specs.declared.draft.Draft.{Draft}
use Rattle.sheets.specs.Texts.{opening_right, all_pair_lines, sheet_of, item_line, pair_lines, pair_names, ◌·◌}
use Rattle.sheets.specs.Reading.{follow, with_count}
use Rattle.sheets.proofs.Drafted.{Drafted, skipped, up_to}
use Rattle.sheets.proofs.Next.{next, drafted_next, seen_next}
use Rattle.sheets.proofs.Forms.{pair_text}
use Rattle.sheets.proofs.Joins.{join_skip}
use Rattle.sheets.proofs.Right.{within_parts}
use Rattle.sheets.proofs.Steps.{item_step, names_step, ok_same, pair_step, step_names, same_pair, same_option}

pub record Fixed (d c : Draft) (i : ℕ) : Type 0 where
  pub opening : c.opening ≡ d.opening
  pub counts : (x : ℕ) → x < i → get_or c.counts x 0 ≡ get_or d.counts x 0

pub fixed_none : (d : Draft) (i : ℕ) → Fixed d d i
fixed_none d i = record { opening = refl; counts = λ x l. refl }

pub fixed_more : (a b c : Draft) (i : ℕ) → Fixed a b i → Fixed b c i → Fixed a c i
fixed_more a b c i f g = record { opening = g.opening ∙ f.opening; counts = λ x l. g.counts x l ∙ f.counts x l }

record Went (d : Draft) (ps : List (List ℕ)) (c : Draft) : Type 0 where
  drafted : Drafted c
  seen : ps ≡ up_to (sheet_of c) c.due
  fixed : Fixed d c 32

sound_pairs : (d : Draft) (k : ℕ) (ps ls : List (List ℕ)) (c : Draft) → Drafted d → ps ≡ up_to (sheet_of d) d.due → 4 + d.opening.items < k → follow d k ls ≡ Ok c → Went d (ps ++ ls) c
sound_pairs d k ps [] c h e l f =
    subst (λ (x : Draft). Went d (ps ++ []) x) (ok_same d c f) (record { drafted = h; seen = append-nil ps ∙ e; fixed = fixed_none d 32 })
sound_pairs d k ps (x ∷ ls) c h e l f =
    let p = pair_step d k x ls c l f in
    let e' = seen_next d h p.0 p.3 p.2 ps e in
    let w = sound_pairs (next d h p.0 p.3 p.2) (k + 1) (ps ++ pair_text p.0 ∷ []) ls c (drafted_next d h p.0 p.3 p.2) e' (omega arith) p.4 in
    record {
      drafted = w.drafted;
      seen = (λ n. ps ++ p.1 n ∷ ls) ∙ sym (append_assoc ps (pair_text p.0 ∷ []) ls) ∙ w.seen;
      fixed = record { opening = w.fixed.opening; counts = w.fixed.counts };
    }

-- all pairs, where the last one is whole
all_pairs : (c : Draft) → Drafted c → c.due.option ≡ 0 → up_to (sheet_of c) c.due ≡ all_pair_lines (sheet_of c)
all_pairs c h o =
    let s = sheet_of c in
    let m : c.due.pair + (1024 - c.due.pair) ≡ 1024 = omega (arith, h.pair_most) in
    ap (λ (v : ℕ). up_to (sheet_of c) (record { pair = c.due.pair; option = v })) o ∙ append-nil (flat_map (pair_lines (sheet_of c)) (range_with_len 0 c.due.pair))
    ∙ sym (join_skip _ _ _ (λ r k l. skipped c h o r k))
    ∙ ap (λ (v : ℕ). flat_map (pair_lines (sheet_of c)) (range_with_len 0 v)) m

pub record Items (d : Draft) (i : ℕ) : Type 0 where
  pub opening_in : opening_right d.opening ≡ true
  pub items_most : d.opening.items ≤ 32
  pub counts_long : length d.counts ≡ 32
  pub counts_in : (x : ℕ) → x < i → (1 ≤ get_or d.counts x 0) × (get_or d.counts x 0 ≤ 32)
  pub counts_past : (x : ℕ) → i ≤ x → get_or d.counts x 0 ≡ 0
  pub no_links : d.links ≡ replicate 32 0
  pub no_rows : d.rows ≡ replicate 15872 0
  pub first_due : d.due ≡ record { pair = 0; option = 0 }

pub nothing_at : (n i : ℕ) → ◌≡◌ {A = ℕ} (get_or (replicate n 0) i 0) 0
nothing_at n i =
    elim (cases_lt i n) [
      | inl less ↦ get_or-replicate n i 0 0 less
      | inr more ↦ get_or_past (replicate n 0) i 0 (omega (arith, length-replicate n (zero)))
    ]

module _ (d : Draft) (i : ℕ) (h : Items d i) where
  pub no_link : (x y : ℕ) → link_bit d.links x y ≡ false
  no_link x y = ap (λ (l : List ℕ). link_bit l x y) h.no_links ∙ (ap (λ (v : ℕ). link_bit (v ∷ []) 0 y) (nothing_at 32 x) ∙ bit_none y)

  pub no_row : (k : ℕ) → get_or d.rows k 0 ≡ 0
  no_row k = ap (λ (l : List ℕ). get_or l k 0) h.no_rows ∙ nothing_at 15872 k

  pub pair_first : d.due.pair ≡ 0
  pair_first = same_pair h.first_due

  pub option_first : d.due.option ≡ 0
  option_first = same_option h.first_due

  pub drafted_first : i ≡ d.opening.items → Drafted d
  drafted_first e = record {
    opening_in = h.opening_in;
    items_most = h.items_most;
    counts_long = h.counts_long;
    links_long = ap length h.no_links ∙ length-replicate 32 zero;
    rows_long = ap length h.no_rows ∙ length-replicate 15872 zero;
    counts_in = λ x l. h.counts_in x (omega arith);
    counts_past = λ x l. h.counts_past x (omega arith);
    own = λ x. no_link x x;
    mutual_links = λ x y. no_link x y ∙ sym (no_link y x);
    linked_in = λ x y l f. absurd (cc (no_link x y));
    linked_done = λ x y l f. absurd (cc (no_link x y));
    pair_most = omega (arith, pair_first);
    begun = λ l. absurd (omega (arith, option_first));
    rows_past = λ k l. no_row k;
    rows_small = λ x b y l k m. subst (λ (v : ℕ). v < 2 ^ get_or d.counts y 0) (sym (no_row (place x b y))) (pow_pos (get_or d.counts y 0));
    rows_free = λ x b y l k m f. no_row (place x b y);
  }

pub items_next : (d : Draft) (i c : ℕ) → Items d i → i < d.opening.items → within c 32 ≡ true → Items (with_count d i c) (i + 1)
items_next d i c h l w = record {
  opening_in = h.opening_in;
  items_most = h.items_most;
  counts_long = length-set d.counts i c ∙ h.counts_long;
  counts_in = λ x k. elim (cases_eq x i) [
    | inl e ↦
        let v : get_or (set d.counts i c) x 0 ≡ c = ap (λ (y : ℕ). get_or (set d.counts i c) y 0) e ∙ get_or-set_same d.counts i c 0 (omega (arith, h.counts_long, h.items_most)) in
        let p = within_parts c 32 w in
        (omega (arith, v, p.0), omega (arith, v, p.1))
    | inr ne ↦
        let v : get_or (set d.counts i c) x 0 ≡ get_or d.counts x 0 = get_or-set_other d.counts i x c 0 ne in
        let b = h.counts_in x (omega arith) in
        (omega (arith, v, b.0), omega (arith, v, b.1))
  ];
  counts_past = λ x k. get_or-set_other d.counts i x c 0 (λ e. omega arith) ∙ h.counts_past x (omega arith);
  no_links = h.no_links;
  no_rows = h.no_rows;
  first_due = h.first_due;
}

pub record Rest (d : Draft) (i m : ℕ) (ls : List (List ℕ)) (c : Draft) : Type 0 where
  pub drafted : Drafted c
  pub text : ls ≡ map (item_line (sheet_of c)) (range_with_len i m) ++ (pair_names ∷ all_pair_lines (sheet_of c))
  pub fixed : Fixed d c i

too_few : {X : Type 0} (d c : Draft) (i k : ℕ) → i ≤ d.opening.items → k ≡ 4 + i → ◌≡◌ {A = Result Draft Refusal} (Ok d) (Ok c) → 4 + c.opening.items < k + 0 → X
too_few d c i k l h e w = let n = ap (λ (x : Draft). x.opening.items) (ok_same d c e) in absurd (omega arith)

pub sound_items : (m : ℕ) (d : Draft) (i k : ℕ) (ls : List (List ℕ)) (c : Draft) → Items d i → i + m ≡ d.opening.items → k ≡ 4 + i → follow d k ls ≡ Ok c → 4 + c.opening.items < k + length ls → c.due.option ≡ 0 → Rest d i m ls c
sound_items zero d i k [] c h e j f w o = too_few d c i k (omega arith) j f w
sound_items (suc m) d i k [] c h e j f w o = too_few d c i k (omega arith) j f w
sound_items zero d i k (x ∷ ls) c h e j f w o =
    let p = names_step d k pair_names x ls c (step_names d k x (omega arith) (omega arith)) f in
    let v = sound_pairs d (k + 1) [] ls c (drafted_first d i h (omega arith)) (ap (up_to (sheet_of d)) (sym h.first_due)) (omega arith) p.1 in
    record {
      drafted = v.drafted;
      text = λ n. p.0 n ∷ (v.seen ∙ all_pairs c v.drafted o) n;
      fixed = record { opening = v.fixed.opening; counts = λ y l. v.fixed.counts y (omega (arith, h.items_most)) };
    }
sound_items (suc m) d i k (x ∷ ls) c h e j f w o =
    let l : i < d.opening.items = omega arith in
    let p = item_step d i k x ls c l j f in
    let v = sound_items m (with_count d i p.0) (i + 1) (k + 1) ls c (items_next d i p.0 h l p.2) (omega arith) (omega arith) p.3 (omega arith) o in
    let count : get_or c.counts i 0 ≡ p.0 = v.fixed.counts i (omega arith) ∙ get_or-set_same d.counts i p.0 0 (omega (arith, h.counts_long, h.items_most)) in
    record {
      drafted = v.drafted;
      text = λ n. (p.1 ∙ (λ k. decimal i · decimal (sym count k))) n ∷ v.text n;
      fixed = record {
        opening = v.fixed.opening;
        counts = λ y k. v.fixed.counts y (omega arith) ∙ get_or-set_other d.counts i y p.0 0 (λ z. omega arith);
      };
    }
