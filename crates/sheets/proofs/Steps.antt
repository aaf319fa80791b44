-- What a line was where it was accepted.
-- Turn e q: the pair q may come, where e is due
-- Fits d l: the pair line l may come after d
use Rattle.std.proofs.Common.{◌≡◌, ℕ, ◌+◌, ◌*◌, ◌<◌, ◌≤◌, Bool, true, false, cond, not, ◌&&◌, eqb, ltb, leb, ◌⊎◌, List, [], ◌∷◌, ◌++◌, length, get_or, Some, None, Ok, Err, Option, decimal, Result, sym, refl, ap, ◌∙◌, inl, inr, arith}
use Rattle.std.proofs.lemmas.Slice.Eq.{bytes_eq-Decides}
use Rattle.std.proofs.lemmas.Bool.{not_from_true, and_parts, cases_Bool, cond-true, cond-false, eqb-true, leb-true, ltb-true, lt-ltb, le-ltb}
use Rattle.std.proofs.lemmas.Bool.Decides.{nat_tests}
use Rattle.meaning.specs.Limits.{within}
use Rattle.meaning.specs.declared.refusal.Refusal.{Refusal}
use Rattle.sheets.specs.declared.draft.Draft.{Draft}
use Rattle.sheets.specs.declared.draft.Due.{Due}
use Rattle.sheets.specs.declared.draft.Opening.{Opening}
use Rattle.sheets.specs.Fields.{ItemLine, PairLine, are_bits, item_of, opening_of, pair_of}
use Rattle.sheets.specs.Texts.{opening_right, opening_line, pair_names, ◌·◌}
use Rattle.sheets.specs.Reading.{due_after, with_count, with_row, is_turn, step, follow, ◌>>=◌}
use Rattle.sheets.specs.Reading as reading
use Rattle.sheets.proofs.Forms.{item_only, opening_only, pair_only, pair_text}

pub cond_in : (b : Bool) (r : Result Draft Refusal) (e : Refusal) (d : Draft) → cond b r (Err e) ≡ Ok d → (b ≡ true) × (r ≡ Ok d)
cond_in true r e d h = (refl, h)
cond_in false r e d h = absurd cc

cond_out : (b : Bool) (r : Result Draft Refusal) (e : Refusal) (d : Draft) → cond b (Err e) r ≡ Ok d → (b ≡ false) × (r ≡ Ok d)
cond_out true r e d h = absurd cc
cond_out false r e d h = (refl, h)

passed : (b : Bool) (r : Result Draft Refusal) (e : Refusal) (d : Draft) → cond (not b) (Err e) r ≡ Ok d → (b ≡ true) × (r ≡ Ok d)
passed true r e d h = (refl, h)
passed false r e d h = absurd cc

pub pass : (b : Bool) (r : Result Draft Refusal) (e : Refusal) → b ≡ true → cond (not b) (Err e) r ≡ r
pass b r e h = cond-false (not b) (Err e) r (not_from_true b h)

pub same_items : {o p : Opening} → o ≡ p → o.items ≡ p.items
same_items e = ap (λ (o : Opening). o.items) e

pub same_pair : {e f : Due} → e ≡ f → e.pair ≡ f.pair
same_pair h = ap (λ (e : Due). e.pair) h

pub same_option : {e f : Due} → e ≡ f → e.option ≡ f.option
same_option h = ap (λ (e : Due). e.option) h

pub ok_same : (d c : Draft) → ◌≡◌ {A = Result Draft Refusal} (Ok d) (Ok c) → d ≡ c
ok_same d c e = cc

pub then_ok : (r : Result Draft Refusal) (f : Draft → Result Draft Refusal) (d : Draft) → r >>= f ≡ Ok d → (c : Draft) × (r ≡ Ok c) × (f c ≡ Ok d)
then_ok (Err e) f d h = absurd cc
then_ok (Ok c) f d h = (c, refl, h)

pub names_ok : (d : Draft) (k : ℕ) (due l : List ℕ) (c : Draft) → reading.names d k due l ≡ Ok c → (l ≡ due) × (d ≡ c)
names_ok d k due l c e =
    let p = cond_in _ _ _ _ e in
    ((bytes_eq-Decides l due).0 p.0, ok_same d c p.1)

pub names_back : (d : Draft) (k : ℕ) (due : List ℕ) → reading.names d k due due ≡ Ok d
names_back d k due = cond-true _ _ _ ((bytes_eq-Decides due due).1 refl)

abbrev pub opened : Draft → Opening → Draft
opened d o = record d { opening = o }

pub opening_ok : (d : Draft) (k : ℕ) (f : Option Opening) (c : Draft) → reading.opening d k f ≡ Ok c
    → (o : Opening) × (f ≡ Some o) × (opening_right o ≡ true) × (opened d o ≡ c)
opening_ok d k None c e = absurd cc
opening_ok d k (Some o) c e =
    let p = cond_in _ _ _ _ e in
    (o, refl, p.0, ok_same (opened d o) c p.1)

pub item_ok : (d : Draft) (k : ℕ) (f : Option ItemLine) (c : Draft) → reading.item d k f ≡ Ok c
    → (l : ItemLine) × (f ≡ Some l) × (l.item < d.opening.items) × (within l.options 32 ≡ true) × (4 + l.item ≡ k) × (with_count d l.item l.options ≡ c)
item_ok d k None c e = absurd cc
item_ok d k (Some l) c e =
    let p = passed _ _ _ _ e in
    let q = passed _ _ _ _ p.1 in
    let r = and_parts _ _ p.0 in
    (l, refl, ltb-true _ _ r.0, r.1, eqb-true _ _ q.0, ok_same (with_count d l.item l.options) c q.1)

abbrev pub Turn : Due → ℕ → Type 0
Turn e q = ((e.option ≡ 0) × (e.pair ≤ q)) ⊎ (e.pair ≡ q)

pub record Fits (d : Draft) (l : PairLine) : Type 0 where
  pub low : l.first < l.second
  pub there : l.second < d.opening.items
  pub an_option : l.option < get_or d.counts l.first 0
  pub long : length l.partners ≡ get_or d.counts l.second 0
  pub due : l.option ≡ d.due.option
  pub turn : Turn d.due (32 * l.first + l.second)

in_turn : (e : Due) (q : ℕ) → cond (eqb e.option 0) (leb e.pair q) (eqb e.pair q) ≡ true → Turn e q
in_turn e q t =
    elim (cases_Bool (eqb e.option 0)) [
      | inl z ↦ inl (eqb-true _ _ z, leb-true _ _ (sym (cond-true _ _ _ z) ∙ t))
      | inr z ↦ inr (eqb-true _ _ (sym (cond-false _ _ _ z) ∙ t))
    ]

no_other_length : (j n m k : ℕ) → (ltb j n && not (eqb m k)) ≡ false → j < n → m ≡ k
no_other_length j n m k e l = grind (arith, nat_tests)

pub pair_ok : (d : Draft) (k : ℕ) (f : Option PairLine) (c : Draft) → reading.pair d k f ≡ Ok c → (l : PairLine) × (f ≡ Some l) × Fits d l × (with_row d l ≡ c)
pair_ok d k None c e = absurd cc
pair_ok d k (Some l) c e =
    let p = cond_out _ _ _ _ e in
    let r = passed _ _ _ _ p.1 in
    let s = passed _ _ _ _ r.1 in
    let x = and_parts _ _ r.0 in
    let y = and_parts _ _ x.1 in
    let t = and_parts _ _ s.0 in
    let u = and_parts _ _ t.1 in (
      l,
      refl,
      record {
        low = ltb-true _ _ t.0;
        there = ltb-true _ _ y.0;
        an_option = ltb-true _ _ y.1;
        long = no_other_length _ _ _ _ p.0 (ltb-true _ _ y.0);
        due = eqb-true _ _ u.0;
        turn = in_turn d.due (32 * l.first + l.second) u.1;
      },
      ok_same (with_row d l) c s.1,
    )

-- what is due after an option
pub due_same : (n q a : ℕ) → a + 1 < n → due_after n q a ≡ record { pair = q; option = a + 1 }
due_same n q a l = cond-true _ _ _ (lt-ltb _ _ l)

pub due_next : (n q a : ℕ) → n ≤ a + 1 → due_after n q a ≡ record { pair = q + 1; option = 0 }
due_next n q a l = cond-false _ _ _ (le-ltb (a + 1) n l)

-- which form is due at a line
pub step_item : (d : Draft) (k : ℕ) (l : List ℕ) → 4 ≤ k → k < 4 + d.opening.items → step d k l ≡ reading.item d k (item_of l)
step_item d k l a b = grind (arith, nat_tests)

pub step_names : (d : Draft) (k : ℕ) (l : List ℕ) → 4 ≤ k → k ≡ 4 + d.opening.items → step d k l ≡ reading.names d k pair_names l
step_names d k l a b = grind (arith, nat_tests)

pub step_pair : (d : Draft) (k : ℕ) (l : List ℕ) → 4 + d.opening.items < k → step d k l ≡ reading.pair d k (pair_of l)
step_pair d k l b = grind (arith, nat_tests)

-- the first of several lines that were accepted, by its form
line_ok : (d : Draft) (k : ℕ) (x : List ℕ) (ls : List (List ℕ)) (c : Draft) → follow d k (x ∷ ls) ≡ Ok c → (b : Draft) × (step d k x ≡ Ok b) × (follow b (k + 1) ls ≡ Ok c)
line_ok d k x ls c e = then_ok (step d k x) (λ b. follow b (k + 1) ls) c e

from_line : (a b : Draft) (k : ℕ) (ls : List (List ℕ)) (c : Draft) → a ≡ b → follow b k ls ≡ Ok c → follow a k ls ≡ Ok c
from_line a b k ls c e f = ap (λ (x : Draft). follow x k ls) e ∙ f

pub names_step : (d : Draft) (k : ℕ) (due x : List ℕ) (ls : List (List ℕ)) (c : Draft) → step d k x ≡ reading.names d k due x → follow d k (x ∷ ls) ≡ Ok c → (x ≡ due) × (follow d (k + 1) ls ≡ Ok c)
names_step d k due x ls c h e =
    let r = line_ok d k x ls c e in
    let p = names_ok d k due x r.0 (sym h ∙ r.1) in
    (p.0, from_line d r.0 (k + 1) ls c p.1 r.2)

pub opening_step : (d : Draft) (x : List ℕ) (ls : List (List ℕ)) (c : Draft) → follow d 2 (x ∷ ls) ≡ Ok c
    → (o : Opening) × (x ≡ opening_line o) × (opening_right o ≡ true) × (follow (opened d o) 3 ls ≡ Ok c)
opening_step d x ls c e =
    let r = line_ok d 2 x ls c e in
    let p = opening_ok d 2 (opening_of x) r.0 r.1 in
    (p.0, opening_only x p.0 p.1, p.2, from_line (opened d p.0) r.0 3 ls c p.3 r.2)

pub item_step : (d : Draft) (i k : ℕ) (x : List ℕ) (ls : List (List ℕ)) (c : Draft) → i < d.opening.items → k ≡ 4 + i → follow d k (x ∷ ls) ≡ Ok c
    → (n : ℕ) × (x ≡ decimal i · decimal n) × (within n 32 ≡ true) × (follow (with_count d i n) (k + 1) ls ≡ Ok c)
item_step d i k x ls c l h e =
    let r = line_ok d k x ls c e in
    let p = item_ok d k (item_of x) r.0 (sym (step_item d k x (omega arith) (omega arith)) ∙ r.1) in
    let is : p.0.item ≡ i = omega (arith, p.4) in
    let n = p.0.options in
    (n, item_only x p.0 p.1 ∙ (λ v. decimal (is v) · decimal n), p.3, from_line (with_count d i n) r.0 (k + 1) ls c ((λ v. with_count d (sym is v) n) ∙ p.5) r.2)

pub pair_step : (d : Draft) (k : ℕ) (x : List ℕ) (ls : List (List ℕ)) (c : Draft) → 4 + d.opening.items < k → follow d k (x ∷ ls) ≡ Ok c
    → (l : PairLine) × (x ≡ pair_text l) × (are_bits l.partners ≡ true) × Fits d l × (follow (with_row d l) (k + 1) ls ≡ Ok c)
pair_step d k x ls c h e =
    let r = line_ok d k x ls c e in
    let p = pair_ok d k (pair_of x) r.0 (sym (step_pair d k x h) ∙ r.1) in
    let o = pair_only x p.0 p.1 in
    (p.0, o.1, o.0, p.2, from_line (with_row d p.0) r.0 (k + 1) ls c p.3 r.2)

-- the lines of two lists, one after the other
append_step : (k m : ℕ) (xs ys : List (List ℕ)) → k + 1 + length xs ≡ m → ((c : Draft) → follow c (k + 1) (xs ++ ys) ≡ (follow c (k + 1) xs >>= λ b. follow b (k + 1 + length xs) ys))
    → (r : Result Draft Refusal) → r >>= (λ c. follow c (k + 1) (xs ++ ys)) ≡ (r >>= λ c. follow c (k + 1) xs) >>= (λ c. follow c m ys)
append_step k m xs ys e f (Err x) = refl
append_step k m xs ys e f (Ok c) = f c ∙ ap (λ (n : ℕ). follow c (k + 1) xs >>= λ b. follow b n ys) e

pub follow_append : (d : Draft) (k : ℕ) (xs ys : List (List ℕ)) → follow d k (xs ++ ys) ≡ (follow d k xs >>= λ c. follow c (k + length xs) ys)
follow_append d k [] ys = ap (λ (n : ℕ). follow d n ys) (omega arith)
follow_append d k (x ∷ xs) ys = append_step k (k + length (x ∷ xs)) xs ys (omega arith) (λ c. follow_append c (k + 1) xs ys) (step d k x)

-- where the first line, or the first lines, are accepted or refused
pub after_line : (d b : Draft) (k : ℕ) (l : List ℕ) (ls : List (List ℕ)) → step d k l ≡ Ok b → follow d k (l ∷ ls) ≡ follow b (k + 1) ls
after_line d b k l ls e = ap (λ (r : Result Draft Refusal). r >>= λ c. follow c (k + 1) ls) e

pub after_lines : (d : Draft) (k : ℕ) (xs ys : List (List ℕ)) (r : Result Draft Refusal) → follow d k xs ≡ r → follow d k (xs ++ ys) ≡ (r >>= λ c. follow c (k + length xs) ys)
after_lines d k xs ys r e = follow_append d k xs ys ∙ ap (λ (x : Result Draft Refusal). x >>= λ c. follow c (k + length xs) ys) e
