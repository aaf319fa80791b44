-- The laws of sheets.
use Rattle.std.proofs.Common.{◌≡◌, ℕ, suc, ◌+◌, ◌-◌, ◌*◌, ◌^◌, ◌<◌, Bool, true, false, cond, ◌&&◌, ltb, leb, List, [], ◌∷◌, ◌++◌, map, length, get_or, take, is_ok, Ok, Err, decimal, Result, sym, refl, ap, ◌∙◌, subst, inl, inr, arith}
use Rattle.std.specs.Result.{result_and}
use Rattle.std.specs.List.{range_with_len, flat_map}
use Rattle.std.proofs.lemmas.List.{length-append, take_all}
use Rattle.std.proofs.lemmas.List.FromFn.{length-map-range_with_len}
use Rattle.std.proofs.lemmas.Bool.{and_from, and_parts, cases_order, cases_Bool, cond-true, cond-false, eq-eqb, ltb-true, lt-ltb, le-leb}
use Rattle.std.proofs.lemmas.Bool.Decides.{nat_tests}
use Rattle.bits.specs.Bits.{bit}
use Rattle.meaning.specs.Grid.{contents_right, grid_check, link_bit, place, sizes_right}
use Rattle.meaning.specs.Limits.{limits_right, within}
use Rattle.meaning.specs.Refusals.{place_of}
use Rattle.meaning.specs.declared.refusal.Refusal.{Refusal}
use Rattle.meaning.specs.declared.refusal.Refusal.TheVariants.{MemoryShort, OutOfLimits}
use Rattle.sheets.specs.declared.draft.Draft.{Draft}
use Rattle.sheets.specs.declared.draft.Opening.{Opening}
use Rattle.sheets.specs.Fields.{cut, partners, Cut}
use Rattle.sheets.specs.Texts.{all_pair_lines, item_lines, Sheet, Same, ended, first, is_given, item_line, item_names, lines_of, opening_line, opening_names, pair_line, pair_lines, pair_names, is_right, second, sheet_of, sheet_of_parts, text_of, ◌·◌}
use Rattle.sheets.specs.Reading.{closing, follow, reading, start, is_whole, ◌>>=◌}
use Rattle.sheets.specs.Writing.{fitting, writing}
use Rattle.sheets.specs.Law.{Checked, Faults, OnlyOne, ReadsBack, WrittenBack}
use Rattle.sheets.proofs.Accepted.{only_texts, right_now, sound_lines}
use Rattle.sheets.proofs.Agree.{given_yet}
use Rattle.sheets.proofs.Complete.{Between, whole_text}
use Rattle.sheets.proofs.Faulty.{closing_line, go_on, then_err, wrong_line}
use Rattle.sheets.proofs.Joins.{join_same}
use Rattle.sheets.proofs.Partners.{map_same}
use Rattle.sheets.proofs.Right as right
use Rattle.sheets.proofs.Steps.{after_lines, same_items}
use Rattle.sheets.proofs.Ended.{lines_cut}
use Rattle.sheets.proofs.Places.{given_parts}

module _ (s : Sheet) (ok : is_right s ≡ true) where
  long_enough : 4 + s.opening.items < 1 + length (lines_of s)
  long_enough =
      let e = length-append (item_lines s) (pair_names ∷ all_pair_lines s) in
      let f = length-map-range_with_len (item_line s) 0 s.opening.items in
      omega (arith, e, f)

  reached : Draft
  reached = (whole_text s ok).0

  agrees : Between s ok 1024 reached
  unfolding reached
  agrees = (whole_text s ok).2

  read_so : reading (text_of s) ≡ Ok reached
  unfolding reached
  read_so =
      let b = (whole_text s ok).2 in
      let w : is_whole (whole_text s ok).0 (1 + length (lines_of s)) [] ≡ true =
      and_from _ _
      (lt-ltb _ _ (subst (λ (o : Opening). 4 + o.items < 1 + length (lines_of s)) b.agree.opening long_enough)) (eq-eqb _ _ b.none) in
      ap (λ (x : Cut). follow start 1 x.lines >>= closing (1 + length x.lines) x.rest) (lines_cut s ok)
      ∙ ap (λ (x : Result Draft Refusal). x >>= closing (1 + length (lines_of s)) []) (whole_text s ok).1
      ∙ cond-true _ _ _ w

  right_reached : is_right (sheet_of reached) ≡ true
  right_reached = right_now reached agrees.agree.drafted

  link_same : (i j : ℕ) → i < j → j < s.opening.items → link_bit s.links i j ≡ link_bit reached.links i j
  link_same i j l k = sym (agrees.agree.links i j l k ∙ (let m = right.items_most s ok in let t : given_yet 1024 0 (32 * i + j) 0 ≡ true = grind (arith, nat_tests) in grind (arith, nat_tests)))

  word_same : (i : ℕ) → i < s.opening.items → get_or s.links i 0 ≡ get_or reached.links i 0
  word_same i l =
      let n = same_items agrees.agree.opening in
      let l' : i < reached.opening.items = omega arith in
      right.same_word s.opening.items (get_or s.links i 0) (get_or reached.links i 0) (right.word_in s ok i l)
      (subst (λ (k : ℕ). get_or reached.links i 0 < 2 ^ k) (sym n) (right.word_in (sheet_of reached) right_reached i l'))
      (λ k m. elim (cases_order i k) [
        | inl e ↦
            ap (λ (x : ℕ). link_bit s.links i x) (sym e) ∙ right.own_not s ok i l ∙ sym (right.own_not (sheet_of reached) right_reached i l')
            ∙ ap (λ (x : ℕ). link_bit reached.links i x) e
        | inr other ↦ elim other [
          | inl up ↦ link_same i k up m
          | inr down ↦ right.mutual_links s ok i k l m ∙ link_same k i down l ∙ right.mutual_links (sheet_of reached) right_reached k i (omega arith) l'
        ]
      ])

  reads_same : Same s (sheet_of reached)
  reads_same = record {
    opening = agrees.agree.opening;
    counts = agrees.agree.counts;
    links = word_same;
    rows = λ i a j l k m. sym (agrees.agree.rows i a j l k m ∙ cond-true (given_yet 1024 0 (32 * i + j) a) (get_or s.rows (place i a j) 0) 0 (let o = right.items_most s ok in grind (arith, nat_tests)));
  }

pub reads_back : ReadsBack
reads_back s ok = (reached s ok, read_so s ok, reads_same s ok)

-- the text is told by what the junction says
module _ (s t : Sheet) (ok : is_right s ≡ true) (e : Same s t) where
  given_same : (q : ℕ) → is_given s q ≡ is_given t q
  given_same q =
      let n = same_items e.opening in
      elim (cases_Bool (ltb (first q) (second q) && ltb (second q) s.opening.items)) [
        | inl yes' ↦
            let r = and_parts (ltb (first q) (second q)) (ltb (second q) s.opening.items) yes' in
            let i_in : first q < s.opening.items = omega (arith, ltb-true _ _ r.0, ltb-true _ _ r.1) in
            λ v. (ltb (first q) (second q) && ltb (second q) (n v)) && bit (e.links (first q) i_in v) (second q)
        | inr not' ↦
            let m : (ltb (first q) (second q) && ltb (second q) t.opening.items) ≡ false = ap (λ (x : ℕ). ltb (first q) (second q) && ltb (second q) x) (sym n) ∙ not' in
            grind (arith, nat_tests)
      ]

  pairs_same : (q : ℕ) → q < 1024 → pair_lines s q ≡ pair_lines t q
  pairs_same q short =
      elim (cases_Bool (is_given s q)) [
        | inl yes' ↦
            let p = given_parts s q yes' in
            let i_in : first q < s.opening.items = omega (arith, p.low, p.there) in
            cond-true _ _ _ yes'
            ∙ map_same _ _ _ _
            (λ a l k. λ v. decimal (first q) · (decimal (second q) · (decimal a · partners (e.counts (second q) p.there v) (e.rows (first q) a (second q) p.low p.there (omega (arith, right.count_most s ok (first q) i_in)) v))))
            ∙ ap (λ (x : ℕ). map (pair_line t q) (range_with_len 0 x)) (e.counts (first q) i_in)
            ∙ sym (cond-true _ _ _ (sym (given_same q) ∙ yes'))
        | inr not' ↦
            cond-false _ _ _ not'
            ∙ sym (cond-false _ _ _ (sym (given_same q) ∙ not'))
      ]

  items_same : item_lines s ≡ map (item_line t) (range_with_len 0 t.opening.items)
  items_same =
      map_same _ _ _ _ (λ i l k. ap (λ (c : ℕ). decimal i · decimal c) (e.counts i (omega arith)))
      ∙ ap (λ (o : Opening). map (item_line t) (range_with_len 0 o.items)) e.opening

  pub text_same : text_of s ≡ text_of t
  text_same =
      ap (flat_map ended)
      (λ v. opening_names ∷ opening_line (e.opening v) ∷ item_names
      ∷ (items_same v ++ (pair_names ∷ join_same (pair_lines s) (pair_lines t) 0 1024 (λ q l. pairs_same q (omega arith)) v)))

pub only_one : OnlyOne
only_one b c d e f g same' =
    let p = only_texts b d f in
    let q = only_texts c e g in
    p.text ∙ text_same (sheet_of d) (sheet_of e) p.right same' ∙ sym q.text

-- accepted lines begin the sheet of some junction
begins : (ls : List (List ℕ)) (c : Draft) → follow start 1 ls ≡ Ok c → (s : Sheet) × (rest : List (List ℕ)) × (is_right s ≡ true) × (lines_of s ≡ ls ++ rest)
begins ls c f =
    let v = go_on ls c f in
    let g : follow start 1 (ls ++ v.more) ≡ Ok v.last =
    after_lines start 1 ls v.more (Ok c) f ∙ v.goes in
    let r = sound_lines (ls ++ v.more) v.last g (omega (arith, v.long, length-append ls v.more)) v.whole in
    (sheet_of v.last, v.more, right_now v.last r.drafted, sym r.text)

pub faults : Faults
faults b e h =
    elim (then_err (follow start 1 (cut b).lines) (closing (1 + length (cut b).lines) (cut b).rest) e h) [
      | inl f ↦
          let w = wrong_line start 1 (cut b).lines e f in
          let here_line : place_of e ≡ suc w.place = w.line ∙ omega arith in
          record {
            least = omega (arith, here_line);
            most = omega (arith, here_line, w.within_lines);
            before = subst (λ (k : ℕ). (s : Sheet) × (rest : List (List ℕ)) × (is_right s ≡ true) × (lines_of s ≡ take k (cut b).lines ++ rest)) (omega (arith, here_line)) (begins (take w.place (cut b).lines) w.reached w.sound);
            here = λ l s rest ok t.
                let q = whole_text s ok in
                let t' : lines_of s ≡ take (suc w.place) (cut b).lines ++ rest = t ∙ ap (λ (k : ℕ). take k (cut b).lines ++ rest) here_line in
                let bad : follow start 1 (lines_of s) ≡ Err e =
                ap (follow start 1) t' ∙ after_lines start 1 (take (suc w.place) (cut b).lines) rest (Err e) w.fault in
                cc (q.1, bad);
          }
      | inr f ↦
          let here_line = closing_line (1 + length (cut b).lines) (cut b).rest f.0 e f.2 in
          record {
            least = omega (arith, here_line);
            most = omega (arith, here_line);
            before = subst (λ (xs : List (List ℕ)). (s : Sheet) × (rest : List (List ℕ)) × (is_right s ≡ true) × (lines_of s ≡ xs ++ rest)) (sym (take_all (place_of e - 1) (cut b).lines (omega (arith, here_line)))) (begins (cut b).lines f.0 f.1);
            here = λ l. absurd (omega (arith, here_line));
          }
    ]

abbrev judged : Bool → Bool → Bool → Result (Unit {0}) Refusal
judged limits sizes contents = cond limits (cond sizes (cond contents (Ok tt) (Err (OutOfLimits 0))) (Err MemoryShort)) (Err (OutOfLimits 0))

check_ways : (within' limits sizes contents : Bool) → ((within' && limits) && (sizes && contents)) ≡ (within' && is_ok (judged limits sizes contents))
check_ways true true true true = refl
check_ways true true true false = refl
check_ways true true false contents = refl
check_ways true false sizes contents = refl
check_ways false limits sizes contents = refl

pub checked : Checked
checked asked p =
    check_ways (within asked 9999) (limits_right p.edition p.items) (sizes_right p.items p.counts.now p.links.now p.rows.now) (contents_right p.items p.counts.now p.links.now p.rows.now)

text_some : (r : Result (Unit {0}) Refusal) (b : Bool) (t u : List ℕ) (room : ℕ) → result_and r (cond b (fitting t room) (Err (OutOfLimits 0))) ≡ Ok u → (is_ok r ≡ true) × (b ≡ true) × (leb (length t) 65536 ≡ true) × (t ≡ u)
text_some (Err e) b t u room h = absurd cc
text_some (Ok x) false t u room h = absurd cc
text_some (Ok x) true t u room h =
    elim (cases_Bool (leb (length t) 65536 && leb (length t) room)) [
      | inl yes' ↦
          let f : ◌≡◌ {A = Result (List ℕ) Refusal} (Ok t) (Ok u) = sym (cond-true _ _ _ yes') ∙ h in
          (refl, refl, (and_parts _ _ yes').0, cc)
      | inr not' ↦
          let f : ◌≡◌ {A = Result (List ℕ) Refusal} (Err MemoryShort) (Ok u) = sym (cond-false _ _ _ not') ∙ h in
          absurd cc
    ]

pub written_back : WrittenBack
unfolding writing
written_back asked room p t h counts links rows a b c =
    let w = text_some (grid_check p) (within asked 9999) (text_of (sheet_of_parts asked p)) t room h in
    let ok : is_right (sheet_of_parts asked p) ≡ true = checked asked p ∙ and_from _ _ w.1 w.0 in
    let r = reads_back (sheet_of_parts asked p) ok in
    let roomy : ((leb 32 counts && (leb 32 links && leb 15872 rows)) && leb (length t) 65536) ≡ true =
    and_from _ _
    (and_from _ _ (le-leb _ _ a) (and_from _ _ (le-leb _ _ b) (le-leb _ _ c)))
    (ap (λ (x : List ℕ). leb (length x) 65536) (sym w.3) ∙ w.2) in
    (r.0, cond-true _ _ _ roomy ∙ ap reading (sym w.3) ∙ r.1, r.2)
