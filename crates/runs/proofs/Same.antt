-- Two admitted screenings of one level, after runs that strike the same options of books of one meaning, end alike.
use Rattle.std.proofs.Common.{◌≡◌, ℕ, ◌+◌, ◌-◌, ◌*◌, ◌/◌, ◌%◌, ◌<◌, ◌≤◌, ◌⊎◌, List, get_or, Some, Ok, Err, sym, refl, ap, ◌∙◌, subst, inl, inr, arith}
use mathlib.Core.Path.{fun_ext}
use native.Mathlib.Decide.{ℕ_discrete, dec_lt}
use Rattle.bits.proofs.Tests.{T_or_not}
use Rattle.meaning.specs.Meaning.{Meaning}
use Rattle.meaning.specs.declared.refusal.Refusal.TheVariants.{NothingConsistent}
use Rattle.levels.specs.Sets.{Set, Has}
use Rattle.levels.specs.Levels.{Linked, level_on}
use Rattle.levels.specs.Counts.{level_numbered}
use Rattle.levels.specs.declared.level.Level.{Level}
use Rattle.levels.specs.declared.level.Level.TheVariants.{Arc, RestrictedPath, MaxRestrictedPath}
use Rattle.runs.specs.State.{State, unstruck}
use Rattle.levels.specs.Counted.{Counted}
use Rattle.levels.specs.Size.{size}
use Rattle.runs.specs.Outcome.{Keeps, FindsNone}
use Rattle.runs.specs.Screening.{Room}
use Rattle.runs.specs.Runs.{Did, Step, calls, tallied}
use Rattle.runs.specs.Law.{After, Admitted, Succeeded, Alike, EqualLaw}
use Rattle.runs.specs.declared.call.Call.TheVariants.{Screen}
use Rattle.runs.specs.Answers.{Answer}
use Rattle.runs.specs.declared.call.Outcome.{Outcome}
use Rattle.runs.proofs.Tally.{after_shows}
use Rattle.runs.proofs.Outcomes.{not_both, same_kept, same_item}
use Rattle.runs.proofs.Endings.{Success, Failure, Ended, refused_not, admitted_ended}

level_of : (level : ℕ) → level ≤ 2 → (l : Level) × (level_numbered level ≡ Ok l)
level_of level le =
    elim (ℕ_discrete level 0) [
      | yes e ↦ (Arc, rw e refl)
      | no n0 ↦ elim (ℕ_discrete level 1) [
        | yes e ↦ (RestrictedPath, rw e refl)
        | no n1 ↦ (let e : level ≡ 2 = omega arith in (MaxRestrictedPath, rw e refl))
      ]
    ]

module _ (m : Meaning) (k : Set) where
  counted_or_not : (i a j : ℕ) → (Has m k i a × Linked m i j) ⊎ (Has m k i a → Linked m i j → ⊥)
  counted_or_not i a j =
      elim (dec_lt i m.items) [
        | no n ↦ inr (λ h l. n h.0)
        | yes il ↦ elim (dec_lt a (m.options i)) [
          | no n ↦ inr (λ h l. n h.1)
          | yes al ↦ elim (T_or_not (k i a)) [
            | inr n ↦ inr (λ h l. n h.2)
            | inl t ↦ elim (dec_lt j m.items) [
              | no n ↦ inr (λ h l. n l.0)
              | yes jl ↦ elim (T_or_not (m.linked i j)) [
                | inr n ↦ inr (λ h l. n l.1)
                | inl x ↦ inl ((il, al, t), (jl, x))
              ]
            ]
          ]
        ]
      ]

  module _ (b c : List ℕ) (hb : Counted m k b) (hc : Counted m k c) where
    same_byte : (i a j : ℕ) → i < m.items → a < 32 → j < 32 → get_or b (1024 * i + 32 * a + j) 0 ≡ get_or c (1024 * i + 32 * a + j) 0
    same_byte i a j il al jl =
        elim (counted_or_not i a j) [
          | inl h ↦ hb.support i a j h.0 h.1 ∙ sym (hc.support i a j h.0 h.1)
          | inr n ↦ hb.else_none i a j il al jl n ∙ sym (hc.else_none i a j il al jl n)
        ]

    same_bytes : (x : ℕ) → x < 1024 * m.items → get_or b x 0 ≡ get_or c x 0
    same_bytes x lt =
        let e : 1024 * (x / 1024) + 32 * (x % 1024 / 32) + x % 32 ≡ x = omega arith in
        subst (λ (y : ℕ). get_or b y 0 ≡ get_or c y 0) e (same_byte (x / 1024) (x % 1024 / 32) (x % 32) (omega arith) (omega arith) (omega arith))

module _ (l : Level) (m : Meaning) (p p' q q' : Room) (v v' w w' : State) (r s : Answer) (e : v.struck ≡ w.struck) where
  keeps_there : (k : Set) → Keeps (level_on l) m (unstruck m v.struck) k → Keeps (level_on l) m (unstruck m w.struck) k
  keeps_there k h = subst (λ (t : Set). Keeps (level_on l) m (unstruck m t) k) e h

  none_there : (i : ℕ) → FindsNone (level_on l) m (unstruck m v.struck) i → FindsNone (level_on l) m (unstruck m w.struck) i
  none_there i h = subst (λ (t : Set). FindsNone (level_on l) m (unstruck m t) i) e h

  both_succeed : Success l m p v r p' v' → Success l m q w s q' w' → Alike m r s p' q' v' w'
  both_succeed x y =
      let kept : v'.kept ≡ w'.kept =
      same_kept (level_on l) m (unstruck m w.struck) v'.kept w'.kept x.2.only_options y.2.only_options
      (keeps_there v'.kept x.2.keeps) y.2.keeps in
      let counts : Counted m w'.kept p'.bytes = subst (λ (k : Set). Counted m k p'.bytes) kept x.2.bytes in
      let n : x.0.kept ≡ y.0.kept = x.2.number_kept ∙ ap (size m) kept ∙ sym y.2.number_kept in
      let c : x.0.crossed ≡ y.0.crossed =
      x.2.number_crossed ∙ ap (λ (t : Set). size m (unstruck m t) - size m v'.kept) e
      ∙ ap (λ (k : Set). size m (unstruck m w.struck) - size m k) kept ∙ sym y.2.number_crossed in
      let same : x.0 ≡ y.0 = λ i. record { kept = n i; crossed = c i } in
      record {
        answers = x.1 ∙ ap (λ (o : Outcome). Ok (Some o)) same ∙ sym y.1;
        bytes = same_bytes m w'.kept p'.bytes q'.bytes counts y.2.bytes;
        kept = λ ok i a. ap (λ (k : Set). k i a) kept;
        struck = λ ok i a. ap (λ (t : Set). t i a) (x.2.struck ∙ e ∙ sym y.2.struck);
      }

  both_fail : Failure l m p v r p' v' → Failure l m q w s q' w' → Alike m r s p' q' v' w'
  both_fail x y =
      let i : x.0 ≡ y.0 = same_item (level_on l) m (unstruck m w.struck) x.0 y.0 (none_there x.0 x.2.none) y.2.none in
      let fails : Succeeded r → ⊥ = refused_not r (NothingConsistent x.0) x.1 in
      record {
        answers = x.1 ∙ ap (λ (z : ℕ). Err (NothingConsistent z)) i ∙ sym y.1;
        bytes = λ k lt. x.2.zero_bytes k lt ∙ sym (y.2.zero_bytes k lt);
        kept = λ ok. absurd (fails ok);
        struck = λ ok. absurd (fails ok);
      }

  both_end : Ended l m p v r p' v' → Ended l m q w s q' w' → Alike m r s p' q' v' w'
  both_end (inl x) (inl y) = both_succeed x y
  both_end (inl x) (inr y) = absurd (not_both (level_on l) m _ v'.kept y.0 (keeps_there v'.kept x.2.keeps) y.2.none)
  both_end (inr x) (inl y) = absurd (not_both (level_on l) m _ w'.kept x.0 y.2.keeps (none_there x.0 x.2.none))
  both_end (inr x) (inr y) = both_fail x y

-- the law over books of the meanings m and m₂
abbrev AlikeOver : Meaning → Meaning → Type 0
AlikeOver m m₂ = (ss ss₂ : List Step) (v w : State) → After m ss v → After m₂ ss₂ w
    → ((i a : ℕ) → tallied m (calls ss) i a ≡ tallied m₂ (calls ss₂) i a)
    → (level : ℕ) (p q p' q' : Room) (r s : Answer) (v' w' : State) → Admitted m level p → Admitted m₂ level q
    → Did m (Screen level) p v r p' v' → Did m₂ (Screen level) q w s q' w' → Alike m r s p' q' v' w'

one_meaning : (m : Meaning) → AlikeOver m m
one_meaning m ss ss₂ v w av aw same level p q p' q' r s v' w' ap₁ aq d d₂ =
    let hv = after_shows m ss v av in
    let hw = after_shows m ss₂ w aw in
    let l = level_of level ap₁.0 in
    both_end l.0 m p p' q q' v v' w w' r s (hv.1 ∙ fun_ext (λ i. fun_ext (λ a. same i a)) ∙ sym hw.1)
    (admitted_ended l.0 m p v p' v' level l.1 hv.0 r ap₁ d)
    (admitted_ended l.0 m q w q' w' level l.1 hw.0 s aq d₂)

pub equal_law : EqualLaw
equal_law m m₂ e = subst (λ (x : Meaning). AlikeOver m x) e (one_meaning m)
