-- A screening of a session that is not barred succeeds, or finds nothing, or is refused before that, which an admitted one is not.
-- Success, Failure: the screening of v that was answered r succeeded, or found nothing; Ended: one of the two
-- Early: the answer says neither
use Rattle.std.proofs.Common.{◌≡◌, ℕ, ◌<◌, Bool, true, false, cond, T, ltb, ◌⊎◌, Some, None, Ok, Err, Result, refl, ap, subst, inl, inr, not-le_of_lt, arith, lit<, ltb→lt}
use Rattle.meaning.specs.Meaning.{Meaning}
use Rattle.meaning.specs.declared.refusal.Refusal.{Refusal}
use Rattle.meaning.specs.declared.refusal.Refusal.TheVariants.{NoSuchLevel, NoRoom, NothingConsistent}
use Rattle.meaning.specs.Refusals.{number_of}
use Rattle.levels.specs.Counts.{level_numbered}
use Rattle.levels.specs.declared.level.Level.{Level}
use Rattle.runs.specs.State.{State}
use Rattle.runs.specs.Screening.{Room, roomy, screen_due, Succeeds, Fails, Ends, Screens}
use Rattle.runs.specs.Runs.{Did}
use Rattle.runs.specs.Law.{Admitted, Succeeded, SaysNone}
use Rattle.runs.specs.declared.call.Call.TheVariants.{Screen}
use Rattle.runs.specs.Answers.{Answer}
use Rattle.runs.specs.declared.call.Outcome.{Outcome}

abbrev pub Success : Level → Meaning → Room → State → Answer → Room → State → Type 0
Success l m q v r q' v' = (o : Outcome) × (r ≡ Ok (Some o)) × Succeeds l m q v o q' v'

abbrev pub Failure : Level → Meaning → Room → State → Answer → Room → State → Type 0
Failure l m q v r q' v' = (i : ℕ) × (r ≡ Err (NothingConsistent i)) × Fails l m q v i q' v'

abbrev pub Ended : Level → Meaning → Room → State → Answer → Room → State → Type 0
Ended l m q v r q' v' = Success l m q v r q' v' ⊎ Failure l m q v r q' v'

abbrev pub Early : Answer → Type 0
Early r = (Succeeded r → ⊥) × (SaysNone r → ⊥)

-- a refused screening did not succeed
pub refused_not : (r : Answer) (e : Refusal) → r ≡ Err e → Succeeded r → ⊥
refused_not r e says s = let ok : r ≡ Ok (Some s.0) = s.1 in let z : ◌≡◌ {A = ℕ} 0 1 = cc in omega arith

-- the refusals below 8 are of screenings that did not begin
refused_early : (r : Answer) (e : Refusal) → r ≡ Err e → number_of e < 8 → Early r
refused_early r e says low = (
  refused_not r e says,
  λ s.
      let again : r ≡ Err (NothingConsistent s.0) = s.1 in
      let same : e ≡ NothingConsistent s.0 = cc in
      let eight : number_of e ≡ 8 = ap number_of same in
      omega arith,
)

module _ (l : Level) (m : Meaning) (q : Room) (v : State) (q' : Room) (v' : State) where
  ended : (r : Answer) → Ends l m q v r q' v' → Ended l m q v r q' v'
  ended (Ok None) d = absurd d
  ended (Ok (Some o)) d = inl (o, refl, d)
  ended (Err e) d = inr (d.0, ap Err d.1, d.2)

  -- high: the level is above 2; room: there is room enough
  ended_or_early : (high room : Bool) (r : Answer) → Screens (cond high (Err NoSuchLevel) (cond room (Ok l) (Err NoRoom))) m q v r q' v'
      → Ended l m q v r q' v' ⊎ (Early r × ((T high → ⊥) → T room → ⊥))
  ended_or_early true room r d = inr (refused_early r NoSuchLevel d.0 (lit< tt), λ h t. h tt)
  ended_or_early false true r d = inl (ended r d)
  ended_or_early false false r d = inr (refused_early r NoRoom d.0 (lit< tt), λ h t. t)

  pub screened : (level : ℕ) → level_numbered level ≡ Ok l → v.barred ≡ false → (r : Answer) → Did m (Screen level) q v r q' v'
      → Ended l m q v r q' v' ⊎ (Early r × (Admitted m level q → ⊥))
  screened level le b r d =
      let due : screen_due m v.barred level q ≡ cond (ltb 2 level) (Err NoSuchLevel) (cond (roomy m q) (Ok l) (Err NoRoom)) = rw (b, le) refl in
      elim (ended_or_early (ltb 2 level) (roomy m q) r (subst (λ (x : Result Level Refusal). Screens x m q v r q' v') due d)) [
        | inl e ↦ inl e
        | inr e ↦ inr (e.0, λ ad. e.1 (λ t. not-le_of_lt (ltb→lt 2 level t) ad.0) ad.1)
      ]

  pub admitted_ended : (level : ℕ) → level_numbered level ≡ Ok l → v.barred ≡ false → (r : Answer) → Admitted m level q
      → Did m (Screen level) q v r q' v' → Ended l m q v r q' v'
  admitted_ended level le b r ad d = elim (screened level le b r d) [ inl e ↦ e | inr e ↦ absurd (e.1 ad) ]
