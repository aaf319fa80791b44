-- Fields put together with commas come apart again, and so do lines put together with their ends.
-- Free sep s: no byte of s is sep; AllFree sep ls: nor any of the lines ls
use Rattle.std.proofs.Common.{◌≡◌, ℕ, ◌^◌, ◌<◌, eqb, List, [], ◌∷◌, ◌++◌, Some, None, decimal, Option, sym, refl, ap, ◌∙◌, ⊎_elim, append_assoc, arith, Bool, true, false, not, ◌+◌, ◌%◌}
use Rattle.std.specs.List.{flat_map, list_all}
use Rattle.std.specs.Option.{option_map}
use Rattle.std.proofs.lemmas.Fmt.{decimal_by_steps}
use Rattle.std.proofs.lemmas.Bool.{cases_Bool, cond-true, cond-false, eqb-true, eq-eqb, and_from, and_parts, not-true}
use Rattle.sheets.specs.Fields.{Cut, Parted, begun, cut, longer, parted}
use Rattle.sheets.specs.Texts.{ended}
use Rattle.std.proofs.lemmas.List.Folds.{list_all-append}
use Rattle.std.proofs.lemmas.Bool.Decides.{nat_tests}

abbrev pub is_free : ℕ → List ℕ → Bool
is_free sep s = list_all (λ b. not (eqb b sep)) s

abbrev pub Free : ℕ → List ℕ → Type 0
Free sep s = is_free sep s ≡ true

abbrev pub AllFree : ℕ → List (List ℕ) → Type 0
AllFree sep ls = list_all (is_free sep) ls ≡ true

pub free_append : (sep : ℕ) (s t : List ℕ) → Free sep s → Free sep t → Free sep (s ++ t)
free_append sep s t f g = list_all-append (λ b. not (eqb b sep)) s t ∙ and_from _ _ f g

-- the first byte is not sep, and no other is
free_parts : (sep b : ℕ) (bs : List ℕ) → Free sep (b ∷ bs) → (eqb b sep ≡ false) × Free sep bs
free_parts sep b bs f =
    let p = and_parts _ _ f in
    (not-true (eqb b sep) p.0, p.1)

pub decimal_free : (sep n : ℕ) → sep < 48 → n < 2 ^ 64 → Free sep (decimal n)
decimal_free sep n low =
    decimal_by_steps (λ n ds. Free sep ds)
    (λ n h. grind (arith, nat_tests))
    (λ n ds h f. free_append sep ds ((48 + n % 10) ∷ []) f (grind (arith, nat_tests))) n

pub parted_at : (sep : ℕ) (s t : List ℕ) → Free sep s → parted sep (s ++ (sep ∷ t)) ≡ Some (record { before = s; after = t })
parted_at sep [] t f = cond-true _ _ _ (eq-eqb sep sep refl)
parted_at sep (b ∷ bs) t f =
    let p = free_parts sep b bs f in
    cond-false _ _ _ p.0 ∙ ap (option_map (longer b)) (parted_at sep bs t p.1)

abbrev joined : ℕ → Parted → List ℕ
joined sep p = p.before ++ (sep ∷ p.after)

joins_longer : (sep b : ℕ) (bs : List ℕ) (o : Option Parted) (p : Parted) → ((q : Parted) → o ≡ Some q → joined sep q ≡ bs) → option_map (longer b) o ≡ Some p → joined sep p ≡ b ∷ bs
joins_longer sep b bs None p h e = absurd cc
joins_longer sep b bs (Some q) p h e =
    let same : longer b q ≡ p = cc in
    ap (joined sep) (sym same) ∙ ap (λ l. b ∷ l) (h q refl)

pub parted_joins : (sep : ℕ) (s : List ℕ) (p : Parted) → parted sep s ≡ Some p → joined sep p ≡ s
parted_joins sep [] p e = absurd cc
parted_joins sep (b ∷ bs) p e =
    ⊎_elim
    (λ t. let same : ◌≡◌ {A = Option Parted} (Some (record { before = []; after = bs })) (Some p) = sym (cond-true _ _ _ t) ∙ e in
    let is : ◌≡◌ {A = Parted} (record { before = []; after = bs }) p = cc in
    ap (joined sep) (sym is) ∙ ap (λ x. x ∷ bs) (sym (eqb-true b sep t)))
    (λ t. joins_longer sep b bs (parted sep bs) p (parted_joins sep bs) (sym (cond-false _ _ _ t) ∙ e))
    (cases_Bool (eqb b sep))

-- the lines of an ended line before other bytes
cut_line : (l t : List ℕ) → Free 10 l → cut (l ++ (10 ∷ t)) ≡ record { lines = l ∷ (cut t).lines; rest = (cut t).rest }
cut_line [] t f = refl
cut_line (b ∷ bs) t f =
    let p = free_parts 10 b bs f in
    cond-false _ _ _ p.0 ∙ ap (λ (c : Cut). begun b c.lines c.rest) (cut_line bs t p.1)

pub cut_ended : (ls : List (List ℕ)) → AllFree 10 ls → cut (flat_map ended ls) ≡ record { lines = ls; rest = [] }
cut_ended [] f = refl
cut_ended (l ∷ ls) f =
    let p = and_parts _ _ f in
    ap cut (append_assoc l (10 ∷ []) (flat_map ended ls)) ∙ cut_line l (flat_map ended ls) p.0
    ∙ ap (λ (c : Cut). record { lines = l ∷ c.lines; rest = c.rest }) (cut_ended ls p.1)

abbrev whole : Cut → List ℕ
whole c = flat_map ended c.lines ++ c.rest

begun_joins : (b : ℕ) (ls : List (List ℕ)) (rest : List ℕ) → whole (begun b ls rest) ≡ b ∷ (flat_map ended ls ++ rest)
begun_joins b [] rest = refl
begun_joins b (l ∷ ls) rest = refl

pub cut_joins : (s : List ℕ) → whole (cut s) ≡ s
cut_joins [] = refl
cut_joins (b ∷ bs) =
    let ih = cut_joins bs in
    ⊎_elim
    (λ t. ap whole (cond-true _ _ _ t) ∙ (λ i. sym (eqb-true _ _ t) i ∷ ih i))
    (λ t. ap whole (cond-false _ _ _ t) ∙ begun_joins b (cut bs).lines (cut bs).rest ∙ ap (λ l. b ∷ l) ih)
    (cases_Bool (eqb b 10))
