-- Every line of a right junction's text is accepted at its turn, and gives what the junction has.
-- given_yet q a x b: in the order of the lines, the option b of the pair x comes before the option a of the pair q
-- Agree s d q a: the draft d has what the pair lines of s before the option a of the pair q give
use Rattle.std.proofs.Common.{◌≡◌, ℕ, ◌+◌, ◌*◌, ◌<◌, Bool, true, false, cond, not, ◌&&◌, ◌||◌, eqb, ltb, leb, List, length, get_or, Some, Ok, sym, ap, ◌∙◌, subst, inl, inr, arith}
use Rattle.std.proofs.lemmas.List.FromFn.{length-map-range_with_len}
use Rattle.std.proofs.lemmas.Bool.{and_from, and_right, cases_eq, cases_Bool, cond-true, cond-false, eq-eqb, ne_eqb, lt-ltb, le-leb}
use Rattle.std.proofs.lemmas.Bool.Decides.{nat_tests}
use Rattle.bits.specs.Below.{one_if}
use Rattle.bits.specs.Bits.{bit}
use Rattle.meaning.specs.Grid.{link_bit, place}
use Rattle.sheets.specs.declared.draft.Draft.{Draft}
use Rattle.sheets.specs.declared.draft.Due.{Due}
use Rattle.sheets.specs.declared.draft.Opening.{Opening}
use Rattle.sheets.specs.Fields.{PairLine, are_bits, partners, word_of}
use Rattle.sheets.specs.Texts.{Sheet, first, is_given, pair_line, is_right, second}
use Rattle.sheets.specs.Reading.{step, is_turn, with_row}
use Rattle.sheets.specs.Reading as reading
use Rattle.sheets.proofs.Drafted.{Drafted}
use Rattle.sheets.proofs.Next.{drafted_next, links_now, row_now, row_other}
use Rattle.sheets.proofs.Forms.{pair_back}
use Rattle.sheets.proofs.Partners.{bits_back, word_back}
use Rattle.sheets.proofs.Places.{place_apart, Given, given_parts, whole_pair}
use Rattle.sheets.proofs.Right as right
use Rattle.sheets.proofs.Steps.{Fits, Turn, due_next, due_same, pass, step_pair}

abbrev pub given_yet : ℕ → ℕ → ℕ → ℕ → Bool
given_yet q a x b = ltb x q || (eqb x q && ltb b a)

pub record Agree (s : Sheet) (d : Draft) (q a : ℕ) : Type 0 where
  pub drafted : Drafted d
  pub opening : s.opening ≡ d.opening
  pub counts : (x : ℕ) → x < s.opening.items → get_or s.counts x 0 ≡ get_or d.counts x 0
  pub links : (x y : ℕ) → x < y → y < s.opening.items → link_bit d.links x y ≡ (link_bit s.links x y && given_yet q a (32 * x + y) 0)
  pub rows : (x b y : ℕ) → x < y → y < s.opening.items → b < 32 → get_or d.rows (place x b y) 0 ≡ cond (given_yet q a (32 * x + y) b) (get_or s.rows (place x b y) 0) 0

-- the same two values by equal tests
cond_same : (b c : Bool) (x : ℕ) → b ≡ c → cond b x 0 ≡ cond c x 0
cond_same b c x e = ap (λ (z : Bool). cond z x 0) e

turn_yes : (e : Due) (q : ℕ) → Turn e q → cond (eqb e.option 0) (leb e.pair q) (eqb e.pair q) ≡ true
turn_yes e q (inl z) = cond-true _ _ _ (eq-eqb _ _ z.0) ∙ le-leb _ _ z.1
turn_yes e q (inr z) =
    elim (cases_Bool (eqb e.option 0)) [
      | inl t ↦ cond-true _ _ _ t ∙ le-leb _ _ (omega arith)
      | inr f ↦ cond-false _ _ _ f ∙ eq-eqb _ _ z
    ]

pub accepts : (d : Draft) (k : ℕ) (l : PairLine) → Fits d l → reading.pair d k (Some l) ≡ Ok (with_row d l)
accepts d k l f =
    cond-false _ _ _
    (and_right (ltb l.second d.opening.items) (not (eqb (length l.partners) (get_or d.counts l.second 0))) (ap not (eq-eqb _ _ f.long)))
    ∙ pass _ _ _
    (and_from _ _ (lt-ltb _ _ (omega (arith, f.low, f.there)))
    (and_from _ _ (lt-ltb _ _ f.there) (lt-ltb _ _ f.an_option)))
    ∙ pass _ _ _
    (and_from _ _ (lt-ltb _ _ f.low)
    (and_from _ _ (eq-eqb _ _ f.due) (turn_yes d.due (32 * l.first + l.second) f.turn)))

-- the option a of the pair q, which s gives, is due
pub record AtTurn (s : Sheet) (d : Draft) (q a : ℕ) : Type 0 where
  pub agree : Agree s d q a
  pub given : is_given s q ≡ true
  pub short : q < 1024
  pub an_option : a < get_or s.counts (first q) 0
  pub due : a ≡ d.due.option
  pub turn : Turn d.due q

-- its line is accepted
module _ (s : Sheet) (ok : is_right s ≡ true) (d : Draft) (q a : ℕ) (t : AtTurn s d q a) where
  abbrev i : ℕ
  i = first q

  abbrev j : ℕ
  j = second q

  abbrev g : Agree s d q a
  g = t.agree

  p : Given s q
  p = given_parts s q t.given

  i_in : i < s.opening.items
  i_in = omega (arith, p.low, p.there)

  abbrev row : ℕ
  row = get_or s.rows (place i a j) 0

  abbrev bs : List ℕ
  bs = partners (get_or s.counts j 0) row

  a_most : a < 32
  a_most = omega (arith, t.an_option, right.count_most s ok i i_in)

  long : length bs ≡ get_or d.counts j 0
  long = length-map-range_with_len (λ b. 48 + one_if (bit row b)) 0 (get_or s.counts j 0) ∙ g.counts j p.there

  word : word_of bs ≡ row
  word = word_back (get_or s.counts j 0) row (right.row_small s ok i a j p.low p.there a_most p.linked t.an_option)

  abbrev pub line : PairLine
  line = record { first = i; second = j; option = a; partners = bs }

  fits : Fits d line
  fits = record {
    low = p.low;
    there = subst (λ (o : Opening). j < o.items) g.opening p.there;
    an_option = subst (λ (n : ℕ). a < n) (g.counts i i_in) t.an_option;
    long = long;
    due = t.due;
    turn = subst (Turn d.due) (sym (whole_pair q)) t.turn;
  }

  abbrev pub next : Draft
  next = with_row d line

  pub accepted : (k : ℕ) → 4 + d.opening.items < k → step d k (pair_line s q a) ≡ Ok next
  accepted k l =
      step_pair d k (pair_line s q a) l
      ∙ ap (reading.pair d k) (pair_back line (omega arith) (omega arith) (omega (arith, a_most)) (bits_back (get_or s.counts j 0) row))
      ∙ accepts d k line fits

  bits_fine : are_bits bs ≡ true
  bits_fine = bits_back (get_or s.counts j 0) row

  links_next : (x y : ℕ) → x < y → y < s.opening.items → link_bit next.links x y ≡ (link_bit s.links x y && given_yet q (a + 1) (32 * x + y) 0)
  links_next x y l k =
      let n = links_now d g.drafted line fits bits_fine x y in
      let o = g.links x y l k in
      let c = whole_pair q in
      let m : y < 32 = omega (arith, right.items_most s ok) in
      elim (cases_eq (32 * x + y) q) [
        | inl e ↦
            let f : x ≡ i = omega arith in
            let h : y ≡ j = omega arith in
            let t' : link_bit s.links x y ≡ true = (λ v. link_bit s.links (f v) (h v)) ∙ p.linked in
            grind (arith, nat_tests)
        | inr ne ↦
            let u : (eqb i x && eqb j y) ≡ false = elim (cases_eq i x) [ inl f ↦ and_right (eqb i x) (eqb j y) (ne_eqb _ _ (λ h. omega (arith, ne))) | inr f ↦ (let z = ne_eqb _ _ f in grind (arith, nat_tests)) ] in
            grind (arith, nat_tests)
      ]

  rows_next : (x b y : ℕ) → x < y → y < s.opening.items → b < 32 → get_or next.rows (place x b y) 0 ≡ cond (given_yet q (a + 1) (32 * x + y) b) (get_or s.rows (place x b y) 0) 0
  rows_next x b y l k m =
      let c = whole_pair q in
      let most : y < 32 = omega (arith, right.items_most s ok) in
      elim (cases_eq (place x b y) (place i a j)) [
        | inl e ↦
            let z = place_apart x b y i a j l p.low m a_most e in
            let now' : get_or next.rows (place x b y) 0 ≡ row =
            ap (λ (v : ℕ). get_or next.rows v 0) e ∙ row_now d g.drafted line fits bits_fine ∙ word in
            let val : row ≡ get_or s.rows (place x b y) 0 = ap (λ (v : ℕ). get_or s.rows v 0) (sym e) in
            let t' : given_yet q (a + 1) (32 * x + y) b ≡ true = (let f = z.0 in let f' = z.1 in let f'' = z.2 in grind (arith, nat_tests)) in
            now' ∙ val ∙ sym (cond-true _ _ _ t')
        | inr ne ↦
            let t' : given_yet q a (32 * x + y) b ≡ given_yet q (a + 1) (32 * x + y) b =
            elim (cases_eq (32 * x + y) q) [
              | inl f ↦
                  let fx : x ≡ i = omega arith in
                  let fy : y ≡ j = omega arith in
                  let away : b ≡ a → ⊥ = λ h. ne (λ v. place (fx v) (h v) (fy v)) in
                  grind (arith, nat_tests)
              | inr f ↦ grind (arith, nat_tests)
            ] in
            row_other d g.drafted line fits bits_fine (place x b y) ne
            ∙ g.rows x b y l k m ∙ cond_same (given_yet q a (32 * x + y) b) (given_yet q (a + 1) (32 * x + y) b) (get_or s.rows (place x b y) 0) t'
      ]

  pub agree_next : Agree s next q (a + 1)
  agree_next = record {
    drafted = drafted_next d g.drafted line fits bits_fine;
    opening = g.opening;
    counts = g.counts;
    links = links_next;
    rows = rows_next;
  }

  count_same : get_or d.counts i 0 ≡ get_or s.counts i 0
  count_same = sym (g.counts i i_in)

  pub due_more : a + 1 < get_or s.counts (first q) 0 → next.due ≡ record { pair = q; option = a + 1 }
  due_more l = due_same (get_or d.counts i 0) (32 * i + j) a (omega (arith, count_same)) ∙ (λ n. record { pair = whole_pair q n; option = a + 1 })

  pub due_last : a + 1 ≡ get_or s.counts (first q) 0 → next.due ≡ record { pair = q + 1; option = 0 }
  due_last l = due_next (get_or d.counts i 0) (32 * i + j) a (omega (arith, count_same)) ∙ (λ n. record { pair = whole_pair q n + 1; option = 0 })
