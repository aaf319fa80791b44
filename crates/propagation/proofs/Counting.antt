-- The support counts at the start and at the end of a screening, by their places.
use Rattle.std.proofs.Common.{◌≡◌, ℕ, ◌*◌, ◌/◌, ◌%◌, ◌<◌, Bool, cond, ◌&&◌, List, get_or, sym, ap, ◌∙◌, subst, inl, inr, arith}
use native.Mathlib.Decide.{dec_lt}
use Rattle.bits.proofs.Tests.{and_l, and_r, and_i, to_true, to_false, T_or_not}
use Rattle.meaning.specs.Meaning.{Meaning, Lawful}
use Rattle.levels.specs.Sets.{Set, Has}
use Rattle.levels.specs.Levels.{Linked}
use Rattle.levels.specs.Counts.{partners}
use Rattle.levels.specs.Counted.{place, byte, used, count_at, Counted, CountsFixed}
use Rattle.propagation.specs.State.{There, Support}
use Rattle.propagation.proofs.Bytes.{at_place}
use Rattle.propagation.proofs.Rows.{linked_there}

-- what a flat pass over the bytes leaves at a place
at_byte : (m : Meaning) (s : Set) (new : List ℕ) (f : ℕ → ℕ → ℕ → ℕ)
    → ((n : ℕ) → n < 1024 * m.items → get_or new n 0 ≡ cond (used m s n) (f (n / 1024) (n / 32 % 32) (n % 32)) 0)
    → (i a j : ℕ) → i < m.items → a < 32 → j < 32 → byte new i a j ≡ cond (s i a && m.linked i j) (f i a j) 0
at_byte m s new f flat i a j il al jl =
    at_place (λ x y z. byte new i a j ≡ cond (s x y && m.linked x z) (f x y z) 0) i a j al jl (flat (place i a j) (omega arith))

module _ (m : Meaning) (law : Lawful m) (s : Set) where
  pub support_start : (bytes : List ℕ)
      → ((n : ℕ) → n < 1024 * m.items → get_or bytes n 0 ≡ count_at m s n)
      → Support m s s bytes
  support_start bytes flat i a j h l =
      at_byte m s bytes (partners m s) flat i a j h.0 (omega (arith, h.1, law.options_most i)) (omega (arith, l.0, law.items_most))
      ∙ ap (λ (b : Bool). cond {A = ℕ} b (partners m s i a j) 0) (to_true (s i a && m.linked i j) (and_i (s i a) (m.linked i j) h.2 l.1))

  pub counted_end : There m s → (old new : List ℕ) → Support m s s old
      → ((n : ℕ) → n < 1024 * m.items → get_or new n 0 ≡ cond (used m s n) (get_or old n 0) 0)
      → Counted m s new
  counted_end there old new sup flat = record {
    support = λ i a j h l.
        flat_at i a j h.0 (omega (arith, h.1, law.options_most i)) (omega (arith, l.0, law.items_most))
        ∙ (ap (λ (b : Bool). cond {A = ℕ} b (byte old i a j) 0) (to_true (s i a && m.linked i j) (and_i (s i a) (m.linked i j) h.2 l.1)) ∙ sup i a j h l);
    else_none = λ i a j il al jl no'.
        flat_at i a j il al jl
        ∙ ap (λ (b : Bool). cond {A = ℕ} b (byte old i a j) 0)
        (to_false (s i a && m.linked i j) (λ t. no' (there i a (and_l (s i a) (m.linked i j) t)) (linked_there m law i j (and_r (s i a) (m.linked i j) t))));
  }
    where
      same : (n : ℕ) → get_or old n 0 ≡ byte old (n / 1024) (n / 32 % 32) (n % 32)
      same n = let e : n ≡ place (n / 1024) (n / 32 % 32) (n % 32) = omega arith in ap (λ (k : ℕ). get_or old k 0) e

      flat_at : (i a j : ℕ) → i < m.items → a < 32 → j < 32 → byte new i a j ≡ cond (s i a && m.linked i j) (byte old i a j) 0
      flat_at = at_byte m s new (byte old) (λ n nl. flat n nl ∙ ap (λ (k : ℕ). cond (used m s n) k 0) (same n))

pub counts_fixed : CountsFixed
counts_fixed m s x y cx cy n nl =
    let i : ℕ = n / 1024 in
    let a : ℕ = n / 32 % 32 in
    let j : ℕ = n % 32 in
    let e : place i a j ≡ n = omega arith in
    subst (λ (k : ℕ). get_or x k 0 ≡ get_or y k 0) e (either i a j (omega arith) (omega arith) (omega arith))
  where
    both : (i a j : ℕ) → i < m.items → a < 32 → j < 32 → (Has m s i a → Linked m i j → ⊥) → byte x i a j ≡ byte y i a j
    both i a j il al jl no' = cx.else_none i a j il al jl no' ∙ sym (cy.else_none i a j il al jl no')

    either : (i a j : ℕ) → i < m.items → a < 32 → j < 32 → byte x i a j ≡ byte y i a j
    either i a j il al jl =
        elim (T_or_not (s i a && m.linked i j)) [
          | inr f ↦ both i a j il al jl (λ h l. f (and_i (s i a) (m.linked i j) h.2 l.1))
          | inl t ↦ elim (dec_lt a (m.options i)) [
            | no n ↦ both i a j il al jl (λ h l. n h.1)
            | yes ao ↦ elim (dec_lt j m.items) [
              | no n ↦ both i a j il al jl (λ h l. n l.0)
              | yes jn ↦
                  (let h : Has m s i a = (il, ao, and_l (s i a) (m.linked i j) t) in
                  let l : Linked m i j = (jn, and_r (s i a) (m.linked i j) t) in
                  cx.support i a j h l ∙ sym (cy.support i a j h l))
            ]
          ]
        ]
