-- The law of one screening, after every run of calls.
use Rattle.std.proofs.Common.{◌≡◌, ℕ, ◌-◌, List, Some, Ok, Err, ap, ◌∙◌, subst, inl, inr}
use Rattle.meaning.specs.Meaning.{Meaning}
use Rattle.meaning.specs.declared.refusal.Refusal.TheVariants.{NothingConsistent}
use Rattle.levels.specs.Sets.{Set}
use Rattle.levels.specs.Levels.{level_on}
use Rattle.levels.specs.declared.level.Level.{Level}
use Rattle.runs.specs.declared.call.Outcome.{Outcome}
use Rattle.runs.specs.State.{State, unstruck}
use Rattle.levels.specs.Size.{size}
use Rattle.runs.specs.Outcome.{FindsNone}
use Rattle.runs.specs.Screening.{Room}
use Rattle.runs.specs.Runs.{calls, tallied}
use Rattle.runs.specs.Law.{left, LargestConsistent, Succeeded, Settled, SessionLaw}
use Rattle.runs.specs.declared.call.Call.{Call}
use Rattle.runs.specs.Answers.{Answer}
use Rattle.runs.proofs.Tally.{after_shows}
use Rattle.runs.proofs.Layouts.{layout_kept}
use Rattle.runs.proofs.Outcomes.{keeps_largest, none_consistent}
use Rattle.runs.proofs.Endings.{Success, Failure, Early, refused_not, screened}

module _ (l : Level) (m : Meaning) (cs : List Call) (admitted : Type 0) (q : Room) (v : State) (r : Answer) (q' : Room) (v' : State) where
  success_settles : v.struck ≡ tallied m cs → Success l m q v r q' v' → Settled l m cs admitted r q' v'
  success_settles told s =
      let k : Set = v'.kept in
      let says : r ≡ Ok (Some s.0) = s.1 in
      let ok : Succeeded r = (s.0, says) in
      let c : LargestConsistent (level_on l) m (left m cs) k =
      subst (λ (t : Set). LargestConsistent (level_on l) m (unstruck m t) k) told
      (keeps_largest (level_on l) m (unstruck m v.struck) k s.2.keeps) in
      record {
        keeps = λ _. c;
        layouts = λ _ f y. layout_kept m f y l (tallied m cs) k c;
        none = λ ad. ((λ z. absurd (refused_not r (NothingConsistent z.0) z.1 ok)), λ none. absurd (none (k, c.inside, c.consistent)));
        either = λ ad. inl ok;
        numbers = λ o e.
            let crossed : s.0.crossed ≡ size m (left m cs) - size m k =
            subst (λ (t : Set). s.0.crossed ≡ size m (unstruck m t) - size m k) told s.2.number_crossed in
            let same : o ≡ s.0 = cc in
            (ap (λ (y : Outcome). y.kept) same ∙ s.2.number_kept, ap (λ (y : Outcome). y.crossed) same ∙ crossed, s.2.bytes);
        item = λ i e. absurd (refused_not r (NothingConsistent i) e ok);
      }

  failure_settles : v.struck ≡ tallied m cs → Failure l m q v r q' v' → Settled l m cs admitted r q' v'
  failure_settles told f =
      let says : r ≡ Err (NothingConsistent f.0) = f.1 in
      let fails : Succeeded r → ⊥ = refused_not r (NothingConsistent f.0) says in
      let found : FindsNone (level_on l) m (left m cs) f.0 =
      subst (λ (t : Set). FindsNone (level_on l) m (unstruck m t) f.0) told f.2.none in
      record {
        keeps = λ ok. absurd (fails ok);
        layouts = λ ok. absurd (fails ok);
        none = λ ad. ((λ z. none_consistent (level_on l) m (left m cs) f.0 found), λ none. (f.0, says));
        either = λ ad. inr (f.0, says);
        numbers = λ o e. absurd (fails (o, e));
        item = λ i e.
            let same : f.0 ≡ i = cc in
            (subst (λ (j : ℕ). FindsNone (level_on l) m (left m cs) j) same found, f.2.zero_bytes);
      }

  early_settles : Early r → (admitted → ⊥) → Settled l m cs admitted r q' v'
  early_settles early shut = record {
    keeps = λ ok. absurd (early.0 ok);
    layouts = λ ok. absurd (early.0 ok);
    none = λ ad. absurd (shut ad);
    either = λ ad. absurd (shut ad);
    numbers = λ o e. absurd (early.0 (o, e));
    item = λ i e. absurd (early.1 (i, e));
  }

pub session_law : SessionLaw
session_law m ss v after =
    let shows = after_shows m ss v after in
    record {
      told = λ i a. ap (λ (s : Set). s i a) shows.1;
      settles = λ level l le q q' r v' d.
          elim (screened l m q v q' v' level le shows.0 r d) [
            | inl e ↦ elim e [
              | inl s ↦ success_settles l m (calls ss) _ q v r q' v' shows.1 s
              | inr f ↦ failure_settles l m (calls ss) _ q v r q' v' shows.1 f
            ]
            | inr e ↦ early_settles l m (calls ss) _ q v r q' v' e.0 e.1
          ];
    }
