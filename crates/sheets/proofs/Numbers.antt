-- A number reads back as it is written, and nothing else is read.
use Rattle.std.proofs.Common.{◌≡◌, ℕ, ◌+◌, ◌-◌, ◌*◌, ◌/◌, ◌%◌, ◌^◌, ◌<◌, ◌≤◌, eqb, List, [], ◌∷◌, ◌++◌, Some, decimal, sym, refl, ap, ◌∙◌, subst, ⊎_elim, append_assoc, append-nil, arith}
use Rattle.std.proofs.lemmas.Fmt.{decimal_digit, decimal_step, decimal_by_steps}
use Rattle.std.proofs.lemmas.Bool.{cases_lt, cases_Bool, cond-true, cond-false, eqb-true, eqb-false, ne_eqb}
use Rattle.std.proofs.lemmas.Bool.Decides.{nat_tests}
use Rattle.sheets.specs.Fields.{digits_after, zero_alone, number_of}

at_digit : (v d : ℕ) (bs : List ℕ) → d < 10 → v < 1000 → digits_after v ((48 + d) ∷ bs) ≡ digits_after (v * 10 + d) bs
at_digit v d bs h l =
    let e : 48 + d - 48 ≡ d = omega arith in
    let f : digits_after (v * 10 + (48 + d - 48)) bs ≡ digits_after (v * 10 + d) bs = ap (λ x. digits_after (v * 10 + x) bs) e in
    grind (arith, nat_tests)

decimal_more : (v d : ℕ) → 0 < v → v < 1000 → d < 10 → decimal (v * 10 + d) ≡ decimal v ++ (48 + d) ∷ []
decimal_more v d a b k =
    let q : (v * 10 + d) / 10 ≡ v = omega arith in
    let r : (v * 10 + d) % 10 ≡ d = omega arith in
    decimal_step (v * 10 + d) (omega arith) (omega arith) ∙ (λ i. decimal (q i) ++ (48 + r i) ∷ [])

-- what was read after v
record Read (v b : ℕ) (bs : List ℕ) (n : ℕ) : Type 0 where
  low : 48 ≤ b
  high : b ≤ 57
  room : v < 1000
  rest : digits_after (v * 10 + (b - 48)) bs ≡ Some n

read_digit : (v b : ℕ) (bs : List ℕ) (n : ℕ) → digits_after v (b ∷ bs) ≡ Some n → Read v b bs n
read_digit v b bs n e = record { low = grind (arith, nat_tests); high = grind (arith, nat_tests); room = grind (arith, nat_tests); rest = grind (arith, nat_tests) }

digits_so : (v : ℕ) (s : List ℕ) (n : ℕ) → 0 < v → v < 10000 → digits_after v s ≡ Some n → (n < 10000) × (s ≡ [] → v ≡ n) × (decimal v ++ s ≡ decimal n)
digits_so v [] n a b e =
    let same : v ≡ n = cc in
    (omega arith, (λ _. same), append-nil (decimal v) ∙ ap decimal same)
digits_so v (b ∷ bs) n a k e =
    let h = read_digit v b bs n e in
    let back : 48 + (b - 48) ≡ b = omega (arith, h.low) in
    let ih = digits_so (v * 10 + (b - 48)) bs n (omega arith) (omega (arith, h.room, h.high)) h.rest in (
      ih.0,
      (λ q. absurd cc),
      ap (λ x. decimal v ++ (x ∷ bs)) (sym back) ∙ sym (append_assoc (decimal v) ((48 + (b - 48)) ∷ []) bs)
          ∙ ap (λ l. l ++ bs) (sym (decimal_more v (b - 48) a h.room (omega (arith, h.high)))) ∙ ih.2,
    )

first_so : (b : ℕ) (bs : List ℕ) (n : ℕ) → (b ≡ 48 → ⊥) → digits_after 0 (b ∷ bs) ≡ Some n → (n < 10000) × (b ∷ bs ≡ decimal n)
first_so b bs n other e =
    let h = read_digit 0 b bs n e in
    let more : 0 < 0 * 10 + (b - 48) = omega (arith, h.low, other) in
    let less : 0 * 10 + (b - 48) < 10 = omega (arith, h.high) in
    let back : 48 + (0 * 10 + (b - 48)) ≡ b = omega (arith, h.low) in
    let all = digits_so (0 * 10 + (b - 48)) bs n more (omega arith) h.rest in
    (all.0, ap (λ x. x ∷ bs) (sym back) ∙ ap (λ l. l ++ bs) (sym (decimal_digit (0 * 10 + (b - 48)) less)) ∙ all.2)

zero_so : (bs : List ℕ) (n : ℕ) → zero_alone bs ≡ Some n → (n ≡ 0) × (bs ≡ [])
zero_so [] n e = let same : n ≡ 0 = cc in (same, refl)
zero_so (b ∷ bs) n e = absurd cc

decimal_zero : decimal 0 ≡ 48 ∷ []
decimal_zero = decimal_digit 0 (omega arith)

pub number_only : (s : List ℕ) (n : ℕ) → number_of s ≡ Some n → (n < 10000) × (s ≡ decimal n)
number_only [] n e = absurd cc
number_only (b ∷ bs) n e =
    ⊎_elim
    (λ z. let h = zero_so bs n (sym (cond-true _ _ _ z) ∙ e) in
    (omega (arith, h.0), (λ i. eqb-true _ _ z i ∷ h.1 i) ∙ sym decimal_zero ∙ ap decimal (sym h.0)))
    (λ z. first_so b bs n (eqb-false b 48 z) (sym (cond-false _ _ _ z) ∙ e))
    (cases_Bool (eqb b 48))

-- the digits of n after those of v
digits_push : (v : ℕ) (s : List ℕ) (w d : ℕ) → digits_after v s ≡ Some w → w < 1000 → d < 10 → digits_after v (s ++ (48 + d) ∷ []) ≡ Some (w * 10 + d)
digits_push v [] w d e h k =
    let same : v ≡ w = cc in
    ap (λ x. digits_after x ((48 + d) ∷ [])) same ∙ at_digit w d [] k h
digits_push v (b ∷ bs) w d e h k =
    let r = read_digit v b bs w e in
    let ih = digits_push (v * 10 + (b - 48)) bs w d r.rest h k in
    let l = r.low in let m = r.high in let o = r.room in
    grind (arith, nat_tests)

abbrev AfterFront : ℕ → List ℕ → Type 0
AfterFront n ds = 0 < n → n < 10000 → (digits_after 0 ds ≡ Some n) × (b : ℕ) × (bs : List ℕ) × (ds ≡ b ∷ bs) × (48 < b)

front_push : (ds : List ℕ) (x b : ℕ) (bs : List ℕ) → ds ≡ b ∷ bs → ds ++ x ∷ [] ≡ b ∷ (bs ++ x ∷ [])
front_push ds x b bs e = ap (λ l. l ++ x ∷ []) e

reads_all : (n : ℕ) → n < 2 ^ 64 → AfterFront n (decimal n)
reads_all =
    decimal_by_steps AfterFront
    (λ n h a l. (at_digit 0 n [] h (omega arith) ∙ ap Some (omega arith), 48 + n, [], refl, omega arith))
    (λ n ds h f a l.
    let r = f (omega arith) (omega arith) in
    let e : n / 10 * 10 + n % 10 ≡ n = omega arith in
    (digits_push 0 ds (n / 10) (n % 10) r.0 (omega arith) (omega arith) ∙ ap Some e, r.1, r.2 ++ (48 + n % 10) ∷ [], front_push ds (48 + n % 10) r.1 r.2 r.3, r.4))

pub number_back : (n : ℕ) → n < 10000 → number_of (decimal n) ≡ Some n
number_back n h =
    ⊎_elim
    (λ z. let e : n ≡ 0 = omega arith in subst (λ m. number_of (decimal m) ≡ Some m) (sym e) (ap number_of decimal_zero))
    (λ z. let r = reads_all n (omega arith) z h in
    ap number_of r.3 ∙ cond-false (eqb r.1 48) (zero_alone r.2) (digits_after 0 (r.1 ∷ r.2)) (ne_eqb r.1 48 (λ e. omega (arith, r.4)))
    ∙ sym (ap (digits_after 0) r.3) ∙ r.0)
    (cases_lt n 1)
