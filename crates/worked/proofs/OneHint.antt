-- A session has one hint, and a test that computes shows which item it names.
-- kept_of: how many options of an item are in the set; has_fewest, has_fewer: i has at most as many as j, or fewer, where j has two or more
-- is_hint m s i: i is, of the items with two or more options in the set s, the lowest of those with the fewest
use Rattle.std.proofs.Common.{◌≡◌, ℕ, ◌<◌, ◌≤◌, Bool, ◌&&◌, T, ltb, leb, Some, None, Option, sym, ap, subst, arith, le→leb, ltb→lt, leb→le}
use native.Mathlib.Decide.{ℕ_discrete, dec_lt}
use Rattle.bits.specs.Below.{count, every, if_then}
use Rattle.bits.proofs.Belows.{every_e}
use Rattle.bits.proofs.Tests.{and_l, and_r, if_then_e}
use Rattle.meaning.specs.Meaning.{Meaning}
use Rattle.levels.specs.Sets.{Set}
use Rattle.runs.specs.State.{State}
use Rattle.runs.specs.Hint.{number, Chosen, Hints}
use Rattle.worked.specs.Nine.{Names}

abbrev kept_of : Meaning → Set → ℕ → ℕ
kept_of m s i = count (m.options i) (s i)

abbrev has_fewest : Meaning → Set → ℕ → ℕ → Bool
has_fewest m s i j = if_then (leb 2 (kept_of m s j)) (leb (kept_of m s i) (kept_of m s j))

abbrev has_fewer : Meaning → Set → ℕ → ℕ → Bool
has_fewer m s i j = if_then (leb 2 (kept_of m s j)) (ltb (kept_of m s i) (kept_of m s j))

abbrev pub is_hint : Meaning → Set → ℕ → Bool
is_hint m s i = (ltb i m.items && leb 2 (kept_of m s i)) && (every m.items (has_fewest m s i) && every i (has_fewer m s i))

module _ (m : Meaning) (v : State) where
  chosen : (i : ℕ) → T (is_hint m v.kept i) → Chosen m v i
  chosen i t =
      let s : Set = v.kept in
      let t1 : T (ltb i m.items && leb 2 (kept_of m s i)) = and_l (ltb i m.items && leb 2 (kept_of m s i)) _ t in
      let t2 : T (every m.items (has_fewest m s i) && every i (has_fewer m s i)) = and_r (ltb i m.items && leb 2 (kept_of m s i)) _ t in
      record {
        there = ltb→lt i m.items (and_l (ltb i m.items) _ t1);
        open_still = leb→le 2 (kept_of m s i) (and_r (ltb i m.items) _ t1);
        fewest = λ j jl two. leb→le (kept_of m s i) (kept_of m s j)
            (if_then_e (leb 2 (kept_of m s j)) _ (every_e m.items (has_fewest m s i) (and_l (every m.items (has_fewest m s i)) _ t2) j jl) (le→leb 2 (kept_of m s j) two));
        lowest = λ j ji two. ltb→lt (kept_of m s i) (kept_of m s j)
            (if_then_e (leb 2 (kept_of m s j)) _ (every_e i (has_fewer m s i) (and_r (every m.items (has_fewest m s i)) _ t2) j ji) (le→leb 2 (kept_of m s j) two));
      }

  not_lower : (i j : ℕ) → Chosen m v i → Chosen m v j → i < j → ⊥
  not_lower i j hi hj lt =
      let a : number m v j < number m v i = hj.lowest i lt hi.open_still in
      let b : number m v i ≤ number m v j = hi.fewest j hj.there hj.open_still in
      omega arith

  one_chosen : (i j : ℕ) → Chosen m v i → Chosen m v j → j ≡ i
  one_chosen i j hi hj =
      elim (ℕ_discrete j i) [
        | yes e ↦ e
        | no ne ↦ elim (dec_lt i j) [
          | yes lt ↦ absurd (not_lower i j hi hj lt)
          | no nlt ↦ absurd (not_lower j i hj hi (omega arith))
        ]
      ]

  one_hint : (i : ℕ) → Chosen m v i → (r : Option ℕ) → Hints m v r → r ≡ Some i
  one_hint i h (Some j) hj = ap Some (one_chosen i j h hj)
  one_hint i h None none =
      let a : number m v i ≤ 1 = none i h.there in
      let b : 2 ≤ number m v i = h.open_still in
      absurd (omega arith)

  pub names : (s : Set) (i : ℕ) → v.kept ≡ s → T (is_hint m s i) → Names m v i
  names s i e t r =
      let h : Chosen m v i = chosen i (subst (λ (x : Set). T (is_hint m x i)) (sym e) t) in
      (one_hint i h r, λ is. subst (Hints m v) (sym is) h)
