-- Partners read back as they are written, and nothing else is read.
use Rattle.std.proofs.Common.{◌≡◌, ℕ, zero, suc, ◌+◌, ◌-◌, ◌*◌, ◌/◌, ◌%◌, ◌^◌, ◌<◌, ◌≤◌, Bool, true, eqb, ◌⊎◌, List, [], ◌∷◌, map, length, sym, refl, ap, ◌∙◌, subst, inl, inr, ⊎_elim, pow-suc, add-one, arith}
use Rattle.std.specs.List.{range_with_len}
use Rattle.std.proofs.lemmas.Bool.{and_parts, or_cases, eqb-true, eq-eqb, ne_eqb, cases_eq}
use Rattle.std.proofs.lemmas.Bool.Decides.{nat_tests}
use Rattle.bits.specs.Below.{one_if}
use Rattle.bits.specs.Bits.{bit}
use Rattle.bits.proofs.Words.{bit_up}
use Rattle.sheets.specs.Fields.{are_bits, partners, word_of}
use Rattle.sheets.proofs.Cutting.{Free}

pub map_shift : {X : Type 0} (f : ℕ → X) (a n : ℕ) → map f (range_with_len (a + 1) n) ≡ map (λ b. f (b + 1)) (range_with_len a n)
map_shift f a zero = refl
map_shift f a (suc n) = ap (λ l. f (a + 1) ∷ l) (map_shift f (a + 1) n)

pub map_same : {X : Type 0} (f g : ℕ → X) (a n : ℕ) → ((b : ℕ) → a ≤ b → b < a + n → f b ≡ g b) → map f (range_with_len a n) ≡ map g (range_with_len a n)
map_same f g a zero h = refl
map_same f g a (suc n) h = λ i. h a (omega arith) (omega arith) i ∷ map_same f g (a + 1) n (λ b k l. h b (omega arith) (omega arith)) i

pub low_bit : (w : ℕ) → one_if (bit w 0) ≡ w % 2
low_bit w =
    ⊎_elim (λ e. ap one_if (eq-eqb _ _ (omega arith)) ∙ sym e)
    (λ e. let z : w % 2 ≡ 0 = omega arith in ap one_if (ne_eqb _ _ (λ k. e (omega arith))) ∙ sym z)
    (cases_eq (w % 2) 1)

next_bits : (k w : ℕ) → map (λ b. 48 + one_if (bit w b)) (range_with_len 1 k) ≡ partners k (w / 2)
next_bits k w =
    map_shift (λ b. 48 + one_if (bit w b)) 0 k
    ∙ map_same _ _ _ _
    (λ b l m. ap (λ (z : Bool). 48 + one_if z) (ap (bit w) (add-one b) ∙ bit_up w b))

pub partners_more : (k w : ℕ) → partners (suc k) w ≡ (48 + w % 2) ∷ partners k (w / 2)
partners_more k w = λ i. (48 + low_bit w i) ∷ next_bits k w i

pub word_back : (k w : ℕ) → w < 2 ^ k → word_of (partners k w) ≡ w
word_back zero w h = omega arith
word_back (suc k) w h =
    let p : 2 ^ suc k ≡ 2 ^ k * 2 = pow-suc 2 k in
    let ih = word_back k (w / 2) (omega arith) in
    ap word_of (partners_more k w) ∙ omega arith

pub bits_back : (k w : ℕ) → are_bits (partners k w) ≡ true
bits_back zero w = refl
bits_back (suc k) w =
    let ih = bits_back k (w / 2) in
    let m : w % 2 < 2 = omega arith in
    ap are_bits (partners_more k w) ∙ grind (arith, nat_tests)

pub partners_free : (sep k w : ℕ) → sep < 48 → Free sep (partners k w)
partners_free sep zero w h = refl
partners_free sep (suc k) w h = subst (Free sep) (sym (partners_more k w)) (let ih = partners_free sep k (w / 2) h in grind (arith, nat_tests))

pub word_small : (s : List ℕ) → are_bits s ≡ true → word_of s < 2 ^ length s
word_small [] e = omega arith
word_small (b ∷ bs) e =
    let h = and_parts _ _ e in
    let ih = word_small bs h.1 in
    let p : 2 ^ suc (length bs) ≡ 2 ^ length bs * 2 = pow-suc 2 (length bs) in
    ⊎_elim (λ z. let q = eqb-true _ _ z in omega arith) (λ z. let q = eqb-true _ _ z in omega arith) (or_cases (eqb b 48) (eqb b 49) h.0)

first_byte : (b v : ℕ) → (b ≡ 48) ⊎ (b ≡ 49) → (48 + ((b - 48) + 2 * v) % 2 ≡ b) × (((b - 48) + 2 * v) / 2 ≡ v)
first_byte b v (inl e) = (omega arith, omega arith)
first_byte b v (inr e) = (omega arith, omega arith)

pub partners_only : (s : List ℕ) → are_bits s ≡ true → s ≡ partners (length s) (word_of s)
partners_only [] e = refl
partners_only (b ∷ bs) e =
    let h = and_parts _ _ e in
    let ih = partners_only bs h.1 in
    let two : (b ≡ 48) ⊎ (b ≡ 49) = ⊎_elim (λ z. inl (eqb-true _ _ z)) (λ z. inr (eqb-true _ _ z)) (or_cases (eqb b 48) (eqb b 49) h.0) in
    let f = first_byte b (word_of bs) two in
    sym (partners_more (length bs) ((b - 48) + 2 * word_of bs) ∙ (λ i. f.0 i ∷ partners (length bs) (f.1 i)) ∙ ap (λ l. b ∷ l) (sym ih))
