-- The line that a refusal names, and how the lines before it can go on.
-- At k r: where r is a refusal, it names the line k
-- Viable c k: after the draft c, whose next line is k, a sheet can go on to its end
use Rattle.std.proofs.Common.{◌≡◌, ℕ, zero, suc, ◌+◌, ◌-◌, ◌*◌, ◌<◌, ◌≤◌, Bool, true, false, cond, ◌⊎◌, List, [], ◌∷◌, length, get_or, take, Some, None, Ok, Err, decimal, Option, Result, sym, refl, ap, ◌∙◌, subst, inl, inr, arith}
use Rattle.std.proofs.lemmas.List.FromFn.{length-map-range_with_len}
use Rattle.std.proofs.lemmas.Bool.{cases_lt, eq-eqb, lt-ltb, and_from}
use Rattle.bits.specs.Below.{one_if}
use Rattle.bits.specs.Bits.{bit}
use Rattle.meaning.specs.Refusals.{place_of}
use Rattle.meaning.specs.declared.refusal.Refusal.{Refusal}
use Rattle.meaning.specs.declared.refusal.Refusal.TheVariants.{Malformed, OutOfLimits, OutOfTurn}
use Rattle.sheets.specs.declared.draft.Draft.{Draft}
use Rattle.sheets.specs.declared.draft.Opening.{Opening}
use Rattle.sheets.specs.Fields.{ItemLine, PairLine, are_bits, item_of, opening_of, pair_of, partners}
use Rattle.sheets.specs.Texts.{item_names, opening_line, opening_names, pair_names, ◌·◌}
use Rattle.sheets.specs.Reading.{follow, start, step, with_count, with_row, ◌>>=◌}
use Rattle.sheets.specs.Reading as reading
use Rattle.sheets.proofs.Accepted.{starts}
use Rattle.sheets.proofs.Agree.{accepts}
use Rattle.sheets.proofs.Drafted.{Begun, Drafted, count_most}
use Rattle.sheets.proofs.Next.{drafted_next}
use Rattle.sheets.proofs.Forms.{item_back, opening_back, pair_back, pair_text}
use Rattle.sheets.proofs.Partners.{bits_back}
use Rattle.sheets.proofs.Sound.{Items, drafted_first, items_next}
use Rattle.sheets.proofs.Steps.{Fits, after_line, due_next, due_same, item_step, names_back, names_step, ok_same, opened, opening_step, pair_step, pass, step_item, step_names, step_pair, same_pair, same_option}

abbrev At : ℕ → Result Draft Refusal → Type 0
At k r = (e : Refusal) → r ≡ Err e → place_of e ≡ k

at_ok : (k : ℕ) (d : Draft) → At k (Ok d)
at_ok k d e h = absurd cc

at_err : (k : ℕ) (f : Refusal) → place_of f ≡ k → At k (Err f)
at_err k f p e h = let same : e ≡ f = cc in ap place_of same ∙ p

at_cond : (k : ℕ) (b : Bool) (x y : Result Draft Refusal) → At k x → At k y → At k (cond b x y)
at_cond k true x y f g = f
at_cond k false x y f g = g

at_names : (d : Draft) (k : ℕ) (due l : List ℕ) → At k (reading.names d k due l)
at_names d k due l = at_cond _ _ _ _ (at_ok k d) (at_err k (Malformed k) refl)

at_opening : (d : Draft) (k : ℕ) (f : Option Opening) → At k (reading.opening d k f)
at_opening d k None = at_err k (Malformed k) refl
at_opening d k (Some o) = at_cond _ _ _ _ (at_ok k (opened d o)) (at_err k (OutOfLimits k) refl)

at_item : (d : Draft) (k : ℕ) (f : Option ItemLine) → At k (reading.item d k f)
at_item d k None = at_err k (Malformed k) refl
at_item d k (Some l) =
    at_cond _ _ _ _ (at_err k (OutOfLimits k) refl)
    (at_cond _ _ _ _ (at_err k (OutOfTurn k) refl) (at_ok k (with_count d l.item l.options)))

at_pair : (d : Draft) (k : ℕ) (f : Option PairLine) → At k (reading.pair d k f)
at_pair d k None = at_err k (Malformed k) refl
at_pair d k (Some l) =
    at_cond _ _ _ _ (at_err k (Malformed k) refl)
    (at_cond _ _ _ _ (at_err k (OutOfLimits k) refl)
    (at_cond _ _ _ _ (at_err k (OutOfTurn k) refl) (at_ok k (with_row d l))))

at_step : (d : Draft) (k : ℕ) (l : List ℕ) → At k (step d k l)
at_step d k l =
    at_cond _ _ _ _ (at_names d k opening_names l)
    (at_cond _ _ _ _ (at_opening d k (opening_of l))
    (at_cond _ _ _ _ (at_names d k item_names l)
    (at_cond _ _ _ _ (at_item d k (item_of l))
    (at_cond _ _ _ _ (at_names d k pair_names l) (at_pair d k (pair_of l))))))

pub then_err : (r : Result Draft Refusal) (f : Draft → Result Draft Refusal) (e : Refusal) → r >>= f ≡ Err e → (r ≡ Err e) ⊎ ((c : Draft) × (r ≡ Ok c) × (f c ≡ Err e))
then_err (Err x) f e h = inl h
then_err (Ok c) f e h = inr (c, refl, h)

-- where the lines ls go wrong
pub record Wrong (d : Draft) (k : ℕ) (ls : List (List ℕ)) (e : Refusal) : Type 0 where
  pub place : ℕ
  pub within_lines : place < length ls
  pub line : place_of e ≡ k + place
  pub fault : follow d k (take (suc place) ls) ≡ Err e
  pub reached : Draft
  pub sound : follow d k (take place ls) ≡ Ok reached

pub wrong_line : (d : Draft) (k : ℕ) (ls : List (List ℕ)) (e : Refusal) → follow d k ls ≡ Err e → Wrong d k ls e
wrong_line d k [] e h = absurd cc
wrong_line d k (l ∷ ls) e h =
    elim (then_err (step d k l) (λ c. follow c (k + 1) ls) e h) [
      | inl f ↦ record {
        place = 0;
        within_lines = omega arith;
        line = at_step d k l e f ∙ omega arith;
        fault = ap (λ (r : Result Draft Refusal). r >>= λ c. follow c (k + 1) []) f;
        reached = d;
        sound = refl;
      }
      | inr f ↦
          let w = wrong_line f.0 (k + 1) ls e f.2 in
          record {
            place = suc w.place;
            within_lines = omega (arith, w.within_lines);
            line = w.line ∙ omega arith;
            fault = after_line d f.0 k l (take (suc w.place) ls) f.1 ∙ w.fault;
            reached = w.reached;
            sound = after_line d f.0 k l (take w.place ls) f.1 ∙ w.sound;
          }
    ]

pub record Viable (c : Draft) (k : ℕ) : Type 0 where
  pub more : List (List ℕ)
  pub last : Draft
  pub goes : follow c k more ≡ Ok last
  pub long : 4 + last.opening.items < k + length more
  pub whole : last.due.option ≡ 0

one_more : (c b : Draft) (k : ℕ) (l : List ℕ) → step c k l ≡ Ok b → Viable b (k + 1) → Viable c k
one_more c b k l e v = record {
  more = l ∷ v.more;
  last = v.last;
  goes = after_line c b k l v.more e ∙ v.goes;
  long = omega (arith, v.long);
  whole = v.whole;
}

done_already : (d : Draft) (k : ℕ) → d.due.option ≡ 0 → 4 + d.opening.items < k → Viable d k
done_already d k z l = record { more = []; last = d; goes = refl; long = omega arith; whole = z }

-- one more line of a pair that is not whole
module _ (d : Draft) (k : ℕ) (h : Drafted d) (b : Begun d) (l : 4 + d.opening.items < k) where
  abbrev line : PairLine
  line = record { first = b.i; second = b.j; option = d.due.option; partners = partners (get_or d.counts b.j 0) 0 }

  fits : Fits d line
  fits = record {
    low = b.low;
    there = b.there;
    an_option = b.more;
    long = length-map-range_with_len (λ x. 48 + one_if (bit 0 x)) 0 (get_or d.counts b.j 0);
    due = refl;
    turn = inr b.is;
  }

  fine : are_bits line.partners ≡ true
  fine = bits_back (get_or d.counts b.j 0) 0

  abbrev then_draft : Draft
  then_draft = with_row d line

  then_step : step d k (pair_text line) ≡ Ok then_draft
  then_step =
      step_pair d k (pair_text line) l
      ∙ ap (reading.pair d k) (pair_back line (omega (arith, b.low, b.there, h.items_most)) (omega (arith, b.there, h.items_most)) (omega (arith, b.more, count_most d h b.i)) fine)
      ∙ accepts d k line fits

  then_drafted : Drafted then_draft
  then_drafted = drafted_next d h line fits fine

  same_item : (c : Begun then_draft) → 0 < then_draft.due.option → (then_draft.due.option ≡ d.due.option + 1) × (get_or d.counts c.i 0 ≡ get_or d.counts b.i 0)
  same_item c z =
      elim (cases_lt (d.due.option + 1) (get_or d.counts b.i 0)) [
        | inl more' ↦
            let e = due_same (get_or d.counts b.i 0) (32 * b.i + b.j) d.due.option more' in
            let same : c.i ≡ b.i = omega (arith, c.is, same_pair e, c.there, b.there, h.items_most) in
            (same_option e, ap (λ (x : ℕ). get_or d.counts x 0) same)
        | inr last' ↦ absurd (omega (arith, same_option (due_next (get_or d.counts b.i 0) (32 * b.i + b.j) d.due.option last')))
      ]

viable_pairs : (m : ℕ) (d : Draft) (k : ℕ) → Drafted d → (0 < d.due.option → (b : Begun d) → get_or d.counts b.i 0 ≤ d.due.option + m) → 4 + d.opening.items < k → Viable d k
viable_pairs zero d k h f l =
    elim (cases_lt 0 d.due.option) [
      | inl some ↦ (let b = h.begun some in absurd (omega (arith, b.more, f some b)))
      | inr none ↦ done_already d k (omega arith) l
    ]
viable_pairs (suc m) d k h f l =
    elim (cases_lt 0 d.due.option) [
      | inl some ↦
          let b = h.begun some in
          one_more d (then_draft d k h b l) k (pair_text (line d k h b l)) (then_step d k h b l)
          (viable_pairs m (then_draft d k h b l) (k + 1) (then_drafted d k h b l)
          (λ z c. let s = same_item d k h b l c z in omega (arith, s.0, s.1, f some b)) (omega arith))
      | inr none ↦ done_already d k (omega arith) l
    ]

after_pairs : (d : Draft) (k : ℕ) → Drafted d → 4 + d.opening.items < k → Viable d k
after_pairs d k h l = viable_pairs 32 d k h (λ z b. omega (arith, count_most d h b.i)) l

-- items with one option each, and then nothing linked
after_items : (m : ℕ) (d : Draft) (i k : ℕ) → Items d i → i + m ≡ d.opening.items → k ≡ 4 + i → Viable d k
after_items zero d i k h e f =
    one_more d d k pair_names (step_names d k pair_names (omega arith) (omega arith) ∙ names_back d k pair_names)
    (after_pairs d (k + 1) (drafted_first d i h (omega arith)) (omega arith))
after_items (suc m) d i k h e f =
    one_more d (with_count d i 1) k (decimal i · decimal 1)
    (step_item d k (decimal i · decimal 1) (omega arith) (omega arith)
    ∙ ap (reading.item d k) (item_back (record { item = i; options = 1 }) (omega (arith, h.items_most)) (omega arith))
    ∙ pass _ _ _ (and_from _ _ (lt-ltb _ _ (omega arith)) refl)
    ∙ pass _ _ _ (eq-eqb _ _ (sym f)))
    (after_items m (with_count d i 1) (i + 1) (k + 1) (items_next d i 1 h (omega arith) refl) (omega arith) (omega arith))

-- from any lines that were accepted
go_pairs : (d : Draft) (k : ℕ) (ls : List (List ℕ)) (c : Draft) → Drafted d → 4 + d.opening.items < k → follow d k ls ≡ Ok c → Viable c (k + length ls)
go_pairs d k [] c h l f = subst (λ (x : Draft). Viable x (k + 0)) (ok_same d c f) (after_pairs d (k + 0) h (omega arith))
go_pairs d k (x ∷ ls) c h l f =
    let p = pair_step d k x ls c l f in
    subst (Viable c) (omega arith) (go_pairs (with_row d p.0) (k + 1) ls c (drafted_next d h p.0 p.3 p.2) (omega arith) p.4)

go_items : (d : Draft) (i k : ℕ) (ls : List (List ℕ)) (c : Draft) → Items d i → i ≤ d.opening.items → k ≡ 4 + i → follow d k ls ≡ Ok c → Viable c (k + length ls)
go_items d i k [] c h l e f =
    subst (λ (x : Draft). Viable x (k + 0)) (ok_same d c f) (after_items (d.opening.items - i) d i (k + 0) h (omega arith) (omega arith))
go_items d i k (x ∷ ls) c h l e f =
    elim (cases_lt i d.opening.items) [
      | inl less ↦
          let p = item_step d i k x ls c less e f in
          subst (Viable c) (omega arith) (go_items (with_count d i p.0) (i + 1) (k + 1) ls c (items_next d i p.0 h less p.2) (omega arith) (omega arith) p.3)
      | inr all ↦
          let p = names_step d k pair_names x ls c (step_names d k x (omega arith) (omega arith)) f in
          subst (Viable c) (omega arith) (go_pairs d (k + 1) ls c (drafted_first d i h (omega arith)) (omega arith) p.1)
    ]

after_opening : (o : Opening) → Items (opened start o) 0 → Viable (opened start o) 3
after_opening o h = one_more (opened start o) (opened start o) 3 item_names (names_back (opened start o) 3 item_names) (after_items o.items (opened start o) 0 4 h (omega arith) (omega arith))

abbrev least : Opening
least = record { asked = 1; edition = 1; items = 1 }

after_names : Viable start 2
after_names = one_more start (opened start least) 2 (opening_line least) (ap (reading.opening start 2) (opening_back least (omega arith) (omega arith) (omega arith))) (after_opening least (starts least refl))

pub go_on : (ls : List (List ℕ)) (c : Draft) → follow start 1 ls ≡ Ok c → Viable c (1 + length ls)
go_on [] c f = subst (λ (x : Draft). Viable x 1) (ok_same start c f) (one_more start start 1 opening_names (names_back start 1 opening_names) after_names)
go_on (x ∷ []) c f =
    let p = names_step start 1 opening_names x [] c refl f in
    subst (λ (b : Draft). Viable b 2) (ok_same start c p.1) after_names
go_on (x ∷ y ∷ []) c f =
    let p = names_step start 1 opening_names x (y ∷ []) c refl f in
    let q = opening_step start y [] c p.1 in
    subst (λ (b : Draft). Viable b 3) (ok_same (opened start q.0) c q.3) (after_opening q.0 (starts q.0 q.2))
go_on (x ∷ y ∷ z ∷ ls) c f =
    let p = names_step start 1 opening_names x (y ∷ z ∷ ls) c refl f in
    let q = opening_step start y (z ∷ ls) c p.1 in
    let u = names_step (opened start q.0) 3 item_names z ls c refl q.3 in
    subst (Viable c) (omega arith) (go_items (opened start q.0) 0 4 ls c (starts q.0 q.2) (omega arith) (omega arith) u.1)

pub closing_line : (k : ℕ) (rest : List ℕ) (d : Draft) (e : Refusal) → reading.closing k rest d ≡ Err e → place_of e ≡ k
closing_line k rest d e h = at_cond _ _ _ _ (at_ok k d) (at_err k (Malformed k) refl) e h
