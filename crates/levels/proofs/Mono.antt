-- What an option meets in a set it meets in every larger one, for every partner count, so an option that fails is in no closed set inside.
-- InsideNear: on the items linked with i, each option of s is one of t; that is all that an option of i asks
-- Monotone: what an option meets in a set it meets in every larger one
use Rattle.std.proofs.Common.{ℕ, ◌≤◌, T, subst, le_trans}
use Rattle.bits.proofs.Counts.{count_mono}
use Rattle.meaning.specs.Meaning.{Meaning}
use Rattle.levels.specs.Sets.{Set, Has, Inside}
use Rattle.levels.specs.Levels.{Condition, Linked, Partner, PathPartner, Meets}
use Rattle.levels.specs.Counts.{partners, count_on}
use Rattle.levels.specs.Closed.{Closed}
use Rattle.levels.specs.Theory.{SameNear}
use Rattle.levels.specs.Tests.{partner_test}
use Rattle.levels.proofs.Counts.{partner_e, partner_i}

abbrev pub InsideNear : Meaning → ℕ → Set → Set → Type 0
InsideNear m i s t = (j b : ℕ) → Linked m i j → Has m s j b → Has m t j b

module _ (m : Meaning) (s t : Set) (i a : ℕ) (st : InsideNear m i s t) where
  pub partner_mono : (j b : ℕ) → Linked m i j → Partner m s i a j b → Partner m t i a j b
  partner_mono j b l p = (st j b l p.0, p.1)

  pub path_mono : (j b : ℕ) → Linked m i j → PathPartner m s i a j b → PathPartner m t i a j b
  path_mono j b l p = (
    partner_mono j b l p.0,
    λ k ki kj ik jk. let w = p.1 k ki kj ik jk in (w.0, (st k w.0 ik w.1.0, w.1.1, w.1.2)),
  )

  pub partners_mono : (j : ℕ) → Linked m i j → partners m s i a j ≤ partners m t i a j
  partners_mono j l =
      count_mono (m.options j) (partner_test m s i a j) (partner_test m t i a j)
      (λ b lt h. partner_i m t i a j b (partner_mono j b l (partner_e m s i a j b l.0 lt h)))

  -- where the larger set has few partners the smaller has few too, so it has a path partner
  pub count_on_mono : (c j : ℕ) → Linked m i j → count_on c m s i a j → count_on c m t i a j
  count_on_mono c j l h = (
    (h.0.0, partner_mono j h.0.0 l h.0.1),
    λ few. let q = h.1 (le_trans (partners_mono j l) few) in (q.0, path_mono j q.0 l q.1),
  )

abbrev pub Monotone : Condition → Meaning → Type 0
Monotone C m = (s t : Set) → Inside m s t → (i a : ℕ) → Meets C m s i a → Meets C m t i a

pub counts_monotone : (c : ℕ) (m : Meaning) → Monotone (count_on c) m
counts_monotone c m s t st i a h j l = count_on_mono m s t i a (λ k b ik. st k b) c j l (h j l)

pub counts_near : (c : ℕ) (m : Meaning) (s t : Set) (i a : ℕ) → SameNear m i s t → Meets (count_on c) m s i a → Meets (count_on c) m t i a
counts_near c m s t i a same h j l =
    count_on_mono m s t i a (λ k b ik x. (x.0, x.1, subst T (same k b ik) x.2)) c j l (h j l)

pub failing_out : (C : Condition) (m : Meaning) → Monotone C m → (s t : Set) → Inside m s t → Closed C m s
    → (i a : ℕ) → (Meets C m t i a → ⊥) → Has m s i a → ⊥
failing_out C m mono s t st cs i a fails h = fails (mono s t st i a (cs i a h))
