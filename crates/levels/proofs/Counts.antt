-- The number of partners: it is not 0 exactly where there is a partner, and the count c asks for more than c partners or a path partner.
use Rattle.std.proofs.Common.{ℕ, ◌<◌, ◌≤◌, T, ◌⊎◌, ◌↔◌, inl, inr, arith}
use native.Mathlib.Decide.{dec_lt}
use Rattle.bits.proofs.Counts.{count_find, count_one}
use Rattle.bits.proofs.Tests.{and_l, and_r, and_i}
use Rattle.meaning.specs.Meaning.{Meaning}
use Rattle.levels.specs.Sets.{Set}
use Rattle.levels.specs.Levels.{Linked, Partner, PathPartner}
use Rattle.levels.specs.Counts.{partners, count_on}
use Rattle.levels.specs.Tests.{partner_test}

module _ (m : Meaning) (s : Set) (i a j : ℕ) where
  pub partner_e : (b : ℕ) → j < m.items → b < m.options j → T (partner_test m s i a j b) → Partner m s i a j b
  partner_e b jn bo t = ((jn, bo, and_l (s j b) (m.together i a j b) t), and_r (s j b) (m.together i a j b) t)

  pub partner_i : (b : ℕ) → Partner m s i a j b → T (partner_test m s i a j b)
  partner_i b p = and_i (s j b) (m.together i a j b) p.0.2 p.1

  pub partner_found : j < m.items → 1 ≤ partners m s i a j → (b : ℕ) × Partner m s i a j b
  partner_found jn h =
      let r = count_find (m.options j) (partner_test m s i a j) h in
      (r.0, partner_e r.0 jn r.1 r.2)

  pub partner_counts : (b : ℕ) → Partner m s i a j b → 1 ≤ partners m s i a j
  partner_counts b p = count_one (m.options j) (partner_test m s i a j) b p.0.1 (partner_i b p)

pub more_or_path : (c : ℕ) (m : Meaning) (s : Set) (i a j : ℕ) → Linked m i j
    → count_on c m s i a j ↔ ((c < partners m s i a j) ⊎ ((b : ℕ) × PathPartner m s i a j b))
more_or_path c m s i a j l = (
  (λ h. elim (dec_lt c (partners m s i a j)) [ yes more ↦ inl more | no few ↦ inr (h.1 (omega arith)) ]),
  λ e. elim e [
    | inl more ↦ (partner_found m s i a j l.0 (omega arith), λ few. absurd (omega arith))
    | inr p ↦ ((p.0, p.1.0), λ few. p)
  ],
)
