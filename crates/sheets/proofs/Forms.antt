-- A line of a form has just the fields that its text has, and the text of fields has the form.
-- item_text l, pair_text l: the line that says l
use Rattle.std.proofs.Common.{◌≡◌, ℕ, ◌<◌, true, List, Some, None, decimal, Option, sym, refl, ap, ◌∙◌, subst, arith}
use Rattle.std.proofs.lemmas.Bool.{cond-true}
use Rattle.std.proofs.lemmas.Option.{cond_some}
use Rattle.sheets.specs.declared.draft.Opening.{Opening}
use Rattle.sheets.specs.Fields.{ItemLine, PairLine, are_bits, item_of, number_of, opening_of, pair_of, parted, ◌>>=◌, Parted}
use Rattle.sheets.specs.Texts.{opening_line, ◌·◌}
use Rattle.sheets.proofs.Numbers.{number_only, number_back}
use Rattle.sheets.proofs.Cutting.{parted_at, parted_joins, decimal_free}

abbrev pub item_text : ItemLine → List ℕ
item_text l = decimal l.item · decimal l.options

abbrev pub pair_text : PairLine → List ℕ
pair_text l = decimal l.first · (decimal l.second · (decimal l.option · l.partners))

then_some : {A B : Type 0} (o : Option A) (g : A → Option B) (y : B) → o >>= g ≡ Some y → (x : A) × (o ≡ Some x) × (g x ≡ Some y)
then_some None g y e = absurd cc
then_some (Some x) g y e = (x, refl, e)

then_back : {A B : Type 0} (o : Option A) (x : A) (g : A → Option B) (r : Option B) → o ≡ Some x → g x ≡ r → o >>= g ≡ r
then_back o x g r e f = ap (λ (z : Option _). z >>= g) e ∙ f

-- the first number of a line, and what follows it
number_part : (l : List ℕ) (p : Parted) (n : ℕ) → parted 44 l ≡ Some p → number_of p.before ≡ Some n → l ≡ decimal n · p.after
number_part l p n e f = sym (parted_joins 44 l p e) ∙ ap (λ (x : List ℕ). x · p.after) (number_only p.before n f).1

part_back : (n : ℕ) (rest : List ℕ) → n < 10000 → parted 44 (decimal n · rest) ≡ Some (record { before = decimal n; after = rest })
part_back n rest h = parted_at 44 (decimal n) rest (decimal_free 44 n (omega arith) (omega arith))

pub opening_only : (l : List ℕ) (o : Opening) → opening_of l ≡ Some o → l ≡ opening_line o
opening_only l o e =
    let p = then_some (parted 44 l) _ o e in
    let q = then_some (parted 44 p.0.after) _ o p.2 in
    let a = then_some (number_of p.0.before) _ o q.2 in
    let t = then_some (number_of q.0.before) _ o a.2 in
    let n = then_some (number_of q.0.after) _ o t.2 in
    let is : ◌≡◌ {A = Opening} (record { asked = a.0; edition = t.0; items = n.0 }) o = let z = n.2 in cc in
    number_part l p.0 a.0 p.1 a.1
    ∙ ap (λ (x : List ℕ). decimal a.0 · x) (number_part p.0.after q.0 t.0 q.1 t.1 ∙ ap (λ (x : List ℕ). decimal t.0 · x) (number_only q.0.after n.0 n.1).1)
    ∙ ap opening_line is

pub opening_back : (o : Opening) → o.asked < 10000 → o.edition < 10000 → o.items < 10000 → opening_of (opening_line o) ≡ Some o
opening_back o h k l =
    then_back _ _ _ _ (part_back o.asked (decimal o.edition · decimal o.items) h)
    (then_back _ _ _ _ (part_back o.edition (decimal o.items) k)
    (then_back _ _ _ _ (number_back o.asked h) (then_back _ _ _ _ (number_back o.edition k) (then_back _ _ _ _ (number_back o.items l) refl))))

pub item_only : (l : List ℕ) (t : ItemLine) → item_of l ≡ Some t → l ≡ item_text t
item_only l t e =
    let p = then_some (parted 44 l) _ t e in
    let i = then_some (number_of p.0.before) _ t p.2 in
    let c = then_some (number_of p.0.after) _ t i.2 in
    let is : ◌≡◌ {A = ItemLine} (record { item = i.0; options = c.0 }) t = let z = c.2 in cc in
    number_part l p.0 i.0 p.1 i.1 ∙ ap (λ (x : List ℕ). decimal i.0 · x) (number_only p.0.after c.0 c.1).1 ∙ ap item_text is

pub item_back : (t : ItemLine) → t.item < 10000 → t.options < 10000 → item_of (item_text t) ≡ Some t
item_back t h k =
    then_back _ _ _ _ (part_back t.item (decimal t.options) h) (then_back _ _ _ _ (number_back t.item h) (then_back _ _ _ _ (number_back t.options k) refl))

pub pair_only : (l : List ℕ) (t : PairLine) → pair_of l ≡ Some t → (are_bits t.partners ≡ true) × (l ≡ pair_text t)
pair_only l t e =
    let p = then_some (parted 44 l) _ t e in
    let q = then_some (parted 44 p.0.after) _ t p.2 in
    let r = then_some (parted 44 q.0.after) _ t q.2 in
    let i = then_some (number_of p.0.before) _ t r.2 in
    let j = then_some (number_of q.0.before) _ t i.2 in
    let a = then_some (number_of r.0.before) _ t j.2 in
    let is = cond_some (are_bits r.0.after) (record { first = i.0; second = j.0; option = a.0; partners = r.0.after }) t a.2 in
    subst (λ (x : PairLine). (are_bits x.partners ≡ true) × (l ≡ pair_text x)) is.1 (
      is.0,
      number_part l p.0 i.0 p.1 i.1
          ∙ ap (λ (x : List ℕ). decimal i.0 · x) (number_part p.0.after q.0 j.0 q.1 j.1
          ∙ ap (λ (x : List ℕ). decimal j.0 · x) (number_part q.0.after r.0 a.0 r.1 a.1)),
    )

pub pair_back : (t : PairLine) → t.first < 10000 → t.second < 10000 → t.option < 10000 → are_bits t.partners ≡ true → pair_of (pair_text t) ≡ Some t
pair_back t h k m b =
    then_back _ _ _ _ (part_back t.first (decimal t.second · (decimal t.option · t.partners)) h)
    (then_back _ _ _ _ (part_back t.second (decimal t.option · t.partners) k)
    (then_back _ _ _ _ (part_back t.option t.partners m)
    (then_back _ _ _ _ (number_back t.first h) (then_back _ _ _ _ (number_back t.second k) (then_back _ _ _ _ (number_back t.option m)
    (cond-true _ _ _ b))))))
