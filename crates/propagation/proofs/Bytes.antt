-- Tables of bytes and words: what a place holds after a loop over an option or over an item.
-- Lowered: the counts on j of the first n options of item i are lowered where the test f says so, and nothing else has changed
-- LoweredAll: the same of the first n items, where they are linked with j
use Rattle.std.proofs.Common.{◌≡◌, ℕ, ◌+◌, ◌-◌, ◌/◌, ◌%◌, ◌<◌, Bool, ◌&&◌, T, ◌≢◌, List, length, get_or, set, sym, ap, ◌∙◌, subst, arith, get_or-set_other, get_or-set_same}
use native.Mathlib.Decide.{ℕ_discrete}
use Rattle.bits.specs.Below.{one_if}
use Rattle.bits.proofs.Counts.{one_if_yes, one_if_no}
use Rattle.bits.proofs.Tests.{and_l, to_true}
use Rattle.meaning.specs.Meaning.{Meaning}
use Rattle.levels.specs.Counted.{place, byte}

abbrev pub Lowered : List ℕ → List ℕ → ℕ → ℕ → (ℕ → Bool) → ℕ → Type 0
Lowered old new i j f n =
    ((x : ℕ) → x < n → byte new i x j ≡ byte old i x j - one_if (f x))
    × ((k : ℕ) → ((x : ℕ) → x < n → k ≢ place i x j) → get_or new k 0 ≡ get_or old k 0)

module _ (old now new : List ℕ) (i j : ℕ) (f : ℕ → Bool) (a : ℕ) (inv : Lowered old now i j f a) where
  -- the turn at option a, where the byte of a is what it should be and no other has changed
  lowered_more : byte new i a j ≡ byte now i a j - one_if (f a) → ((k : ℕ) → k ≢ place i a j → get_or new k 0 ≡ get_or now k 0) → Lowered old new i j f (a + 1)
  lowered_more here moved = (
    (λ x xl. elim (ℕ_discrete x a) [
      | yes e ↦ subst (λ (y : ℕ). byte new i y j ≡ byte old i y j - one_if (f y)) (sym e) (here ∙ ap (λ (z : ℕ). z - one_if (f a)) lowered_not_yet)
      | no ne ↦ (let other : place i x j ≢ place i a j = omega arith in moved (place i x j) other ∙ inv.0 x (omega arith))
    ]),
    λ k h. moved k (h a (omega arith)) ∙ inv.1 k (λ x xl. h x (omega arith)),
  )
    where
      lowered_not_yet : byte now i a j ≡ byte old i a j
      lowered_not_yet = inv.1 (place i a j) (λ x xl. let ne : place i a j ≢ place i x j = omega arith in ne)

  pub lowered_yes : place i a j < length now → T (f a) → new ≡ set now (place i a j) (byte now i a j - 1) → Lowered old new i j f (a + 1)
  lowered_yes lt t is =
      let o : one_if (f a) ≡ 1 = one_if_yes (f a) t in
      lowered_more
      (ap (λ (l : List ℕ). get_or l (place i a j) 0) is ∙ (get_or-set_same now (place i a j) (byte now i a j - 1) 0 lt ∙ ap (λ (z : ℕ). byte now i a j - z) (sym o)))
      (λ k ne. ap (λ (l : List ℕ). get_or l k 0) is ∙ get_or-set_other now (place i a j) k (byte now i a j - 1) 0 ne)

  pub lowered_no : (T (f a) → ⊥) → new ≡ now → Lowered old new i j f (a + 1)
  lowered_no n is =
      let o : one_if (f a) ≡ 0 = one_if_no (f a) n in
      let e : byte new i a j ≡ byte now i a j = ap (λ (l : List ℕ). get_or l (place i a j) 0) is in
      lowered_more (omega (arith, o, e)) (λ k ne. ap (λ (l : List ℕ). get_or l k 0) is)

abbrev pub LoweredAll : Meaning → List ℕ → List ℕ → ℕ → (ℕ → ℕ → Bool) → ℕ → Type 0
LoweredAll m old new j f n =
    ((i a : ℕ) → i < n → a < 32 → byte new i a j ≡ byte old i a j - one_if (m.linked i j && f i a))
    × ((k : ℕ) → ((i a : ℕ) → i < n → a < 32 → k ≢ place i a j) → get_or new k 0 ≡ get_or old k 0)

apart : (x a y b j : ℕ) → a < 32 → b < 32 → x ≢ y → place x a j ≢ place y b j
apart x a y b j al bl ne e = ne (omega arith)

module _ (m : Meaning) (old now : List ℕ) (j : ℕ) (f : ℕ → ℕ → Bool) (i : ℕ) (inv : LoweredAll m old now j f i) where
  pub all_not_yet : (a : ℕ) → a < 32 → byte now i a j ≡ byte old i a j
  all_not_yet a al = inv.1 (place i a j) (λ x b xl bl. let ne : i ≢ x = omega arith in apart i a x b j al bl ne)

  module _ (new : List ℕ) where
    all_more : ((a : ℕ) → a < 32 → byte new i a j ≡ byte now i a j - one_if (m.linked i j && f i a))
        → ((k : ℕ) → ((a : ℕ) → a < 32 → k ≢ place i a j) → get_or new k 0 ≡ get_or now k 0) → LoweredAll m old new j f (i + 1)
    all_more mine others = (
      (λ x a xl al. elim (ℕ_discrete x i) [
        | yes e ↦
            subst (λ (y : ℕ). byte new y a j ≡ byte old y a j - one_if (m.linked y j && f y a)) (sym e)
            (mine a al ∙ ap (λ (z : ℕ). z - one_if (m.linked i j && f i a)) (all_not_yet a al))
        | no ne ↦ others (place x a j) (λ b bl. apart x a i b j al bl ne) ∙ inv.0 x a (omega arith) al
      ]),
      λ k h. others k (λ a al. h i a (omega arith) al) ∙ inv.1 k (λ x a xl al. h x a (omega arith) al),
    )

    pub all_yes : T (m.linked i j) → ((a : ℕ) → a < 32 → byte new i a j ≡ byte now i a j - one_if (f i a))
        → ((k : ℕ) → ((a : ℕ) → a < 32 → k ≢ place i a j) → get_or new k 0 ≡ get_or now k 0) → LoweredAll m old new j f (i + 1)
    all_yes t mine others =
        all_more (λ a al. mine a al ∙ ap (λ (y : Bool). byte now i a j - one_if (y && f i a)) (sym (to_true (m.linked i j) t))) others

    pub all_no : (T (m.linked i j) → ⊥) → new ≡ now → LoweredAll m old new j f (i + 1)
    all_no n is =
        all_more
        (λ a al.
        let o : one_if (m.linked i j && f i a) ≡ 0 = one_if_no (m.linked i j && f i a) (λ v. n (and_l (m.linked i j) (f i a) v)) in
        let e : byte new i a j ≡ byte now i a j = ap (λ (l : List ℕ). get_or l (place i a j) 0) is in
        omega (arith, o, e))
        (λ k h. ap (λ (l : List ℕ). get_or l k 0) is)

-- a place is that of its item, its option and its second item
pub at_place : (P : ℕ → ℕ → ℕ → Type 0) (i a j : ℕ) → a < 32 → j < 32 → P (place i a j / 1024) (place i a j / 32 % 32) (place i a j % 32) → P i a j
at_place P i a j al jl h =
    let e1 : place i a j / 1024 ≡ i = omega arith in
    let e2 : place i a j / 32 % 32 ≡ a = omega arith in
    let e3 : place i a j % 32 ≡ j = omega arith in
    subst (λ (x : ℕ). P i a x) e3 (subst (λ (x : ℕ). P i x (place i a j % 32)) e2 (subst (λ (x : ℕ). P x (place i a j / 32 % 32) (place i a j % 32)) e1 h))

pub apart_on : (x a k y b j : ℕ) → a < 32 → b < 32 → k < 32 → j < 32 → k ≢ j → place x a k ≢ place y b j
apart_on x a k y b j al bl kl jl ne e = ne (omega arith)
