-- What a screening of the options u comes to is one thing: what is kept is the largest consistent set, or there is no consistent set.
use Rattle.std.proofs.Common.{◌≡◌, ℕ, ◌<◌, T, ltb, arith, ltb→lt}
use mathlib.Core.Path.{fun_ext}
use native.Mathlib.Decide.{ℕ_discrete, dec_lt}
use Rattle.bits.proofs.Tests.{and_l, and_r, same_T}
use Rattle.meaning.specs.Meaning.{Meaning}
use Rattle.levels.specs.Sets.{Set}
use Rattle.levels.specs.Levels.{Condition}
use Rattle.levels.proofs.Exists.{largest_unique}
use Rattle.runs.specs.State.{is_option}
use Rattle.runs.specs.Outcome.{Keeps, FindsNone}
use Rattle.runs.specs.Law.{LargestConsistent, SomeConsistent}

abbrev pub OnlyOptions : Meaning → Set → Type 0
OnlyOptions m k = (i a : ℕ) → T (k i a) → T (is_option m i a)

module _ (C : Condition) (m : Meaning) (u : Set) where
  pub keeps_largest : (k : Set) → Keeps C m u k → LargestConsistent C m u k
  keeps_largest k h = record {
    inside = h.largest.inside;
    consistent = (h.largest.closed, h.none_empty);
    largest = λ s su cs. h.largest.largest s su cs.0;
  }

  pub none_consistent : (i : ℕ) → FindsNone C m u i → SomeConsistent C m u → ⊥
  none_consistent i h s =
      let x = s.2.1 i h.there in
      h.empty x.0 (h.largest.largest s.0 s.1 s.2.0 i x.0 x.1)

  pub not_both : (k : Set) (i : ℕ) → Keeps C m u k → FindsNone C m u i → ⊥
  not_both k i h none = none_consistent i none (k, h.largest.inside, (h.largest.closed, h.none_empty))

  kept_inside : (k l : Set) → OnlyOptions m k → Keeps C m u k → Keeps C m u l → (i a : ℕ) → T (k i a) → T (l i a)
  kept_inside k l only hk hl i a t =
      let o = only i a t in
      let il = ltb→lt i m.items (and_l (ltb i m.items) (ltb a (m.options i)) o) in
      let al = ltb→lt a (m.options i) (and_r (ltb i m.items) (ltb a (m.options i)) o) in
      (largest_unique C m u k l hk.largest hl.largest i a (il, al, t)).2

  pub same_kept : (k l : Set) → OnlyOptions m k → OnlyOptions m l → Keeps C m u k → Keeps C m u l → k ≡ l
  same_kept k l ok ol hk hl =
      fun_ext (λ i. fun_ext (λ a. same_T (k i a) (l i a) (kept_inside k l ok hk hl i a) (kept_inside l k ol hl hk i a)))

  item_not_lower : (i j : ℕ) → FindsNone C m u i → FindsNone C m u j → i < j → ⊥
  item_not_lower i j hi hj lt =
      let x = hj.lowest i lt in
      hi.empty x.0 (largest_unique C m u hj.closed hi.closed hj.largest hi.largest i x.0 x.1)

  pub same_item : (i j : ℕ) → FindsNone C m u i → FindsNone C m u j → i ≡ j
  same_item i j hi hj =
      elim (ℕ_discrete i j) [
        | yes e ↦ e
        | no ne ↦ elim (dec_lt i j) [
          | yes lt ↦ absurd (item_not_lower i j hi hj lt)
          | no nlt ↦ absurd (item_not_lower j i hj hi (omega arith))
        ]
      ]
