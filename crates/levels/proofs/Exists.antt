-- Inside every start there is a largest closed set for a partner count, and only one.
use Rattle.std.proofs.Common.{ℕ, zero, suc, ◌<◌, ◌⊎◌, List, [], ◌∷◌, inl, inr, le_refl, not-suc-le-zero, arith}
use Rattle.bits.specs.Below.{every}
use Rattle.bits.proofs.Belows.{every_not_e}
use Rattle.bits.proofs.Tests.{T_or_not, if_then_not}
use Rattle.meaning.specs.Meaning.{Meaning}
use Rattle.levels.specs.Sets.{Set, Has, Inside}
use Rattle.levels.specs.Levels.{Condition, Meets}
use Rattle.levels.specs.Counts.{count_on}
use Rattle.levels.specs.Closed.{Closed, LargestClosed}
use Rattle.levels.proofs.Crossing.{without, crossed, Fails, crossings_largest}
use Rattle.levels.specs.Tests.{meets_test, kept_meets_test, closed_test}
use Rattle.levels.proofs.Decide.{meets_dec, closed_e}
use Rattle.levels.proofs.Mono.{counts_monotone}
use Rattle.levels.specs.Size.{size}
use Rattle.levels.proofs.Sizes.{size_falls}

module _ (c : ℕ) (m : Meaning) where
  pub closed_or_fails : (s : Set) → Closed (count_on c) m s ⊎ ((i : ℕ) × (a : ℕ) × Has m s i a × (Meets (count_on c) m s i a → ⊥))
  closed_or_fails s =
      elim (T_or_not (closed_test c m s)) [
        | inl t ↦ inl (closed_e c m s t)
        | inr f ↦
            (let x = every_not_e m.items (λ i. every (m.options i) (kept_meets_test c m s i)) f in
            let y = every_not_e (m.options x.0) (kept_meets_test c m s x.0) x.2 in
            let z = if_then_not (s x.0 y.0) (meets_test c m s x.0 y.0) y.2 in
            inr (x.0, y.0, (x.1, y.1, z.0), λ h. z.1 ((meets_dec c m s x.0 y.0).1 h)))
      ]

  -- each crossing makes the set smaller, so at some time what is left is closed
  crossings : (n : ℕ) (s : Set) → size m s < n → (xs : List (ℕ × ℕ)) × Fails (count_on c) m s xs × Closed (count_on c) m (crossed s xs)
  crossings zero s lt = absurd (not-suc-le-zero lt)
  crossings (suc n) s lt =
      elim (closed_or_fails s) [
        | inl cl ↦ ([], tt, cl)
        | inr x ↦
            (let falls : size m (without s x.0 x.1) < size m s = size_falls m s x.0 x.1 x.2 in
            let r = crossings n (without s x.0 x.1) (omega arith) in
            ((x.0, x.1) ∷ r.0, (x.3, r.1), r.2))
      ]

  pub largest_exists : (u : Set) → (k : Set) × LargestClosed (count_on c) m u k
  largest_exists u =
      let r = crossings (suc (size m u)) u (le_refl (suc (size m u))) in
      (crossed u r.0, crossings_largest (count_on c) m (counts_monotone c m) u r.0 r.1 r.2)

pub largest_unique : (C : Condition) (m : Meaning) (u k l : Set) → LargestClosed C m u k → LargestClosed C m u l → Inside m k l
largest_unique C m u k l hk hl = hl.largest k hk.inside hk.closed
