-- What each call does to a session, and the runs that calls make, each call starting where the one before stopped.
-- Did: what a call said and did, by the session before and after and, for a screening, what it was handed and left
-- Step: one call of a run with what it was handed, said and left
-- Run m v ss v': the steps ss lead from the session v to v'
-- tallied: the plain tally, what is struck by the book's meaning and the calls' arguments alone
use Rattle.std.specs.Prelude.{◌≡◌, if◌then◌else◌, not, ◌&&◌, List, [], ◌∷◌, None, Ok, Err, Result}
use Rattle.meaning.specs.Meaning.{Meaning}
use Rattle.meaning.specs.declared.refusal.Refusal.{Refusal}
use Rattle.levels.specs.Sets.{Set}
use Rattle.runs.specs.declared.call.Call.{Call}
use Rattle.runs.specs.declared.call.Call.TheVariants.{Strike, Choose, Restore, Screen}
use Rattle.runs.specs.Answers.{Answer}
use Rattle.runs.specs.State.{State, nothing, is_option}
use Rattle.runs.specs.Edits.{edited, strike_due, restore_due, struck_by, chosen_by, restored_by, with_one, without_one, with_others}
use Rattle.runs.specs.Screening.{Room, screen_due, Screens}

abbrev pub said : Result (Unit {0}) Refusal → Answer
said (Ok t) = Ok None
said (Err e) = Err e

-- an edit: its answer, and the session after it; it touches nothing else
abbrev pub Edits : Result (Unit {0}) Refusal → State → State → Room → Answer → Room → State → Type 0
Edits due v after q r q' v' = (r ≡ said due) × (v' ≡ edited due v after) × (q' ≡ q)

abbrev pub Did : Meaning → Call → Room → State → Answer → Room → State → Type 0
Did m (Strike i a) q v r q' v' = Edits (strike_due m v i a) v (struck_by v i a) q r q' v'
Did m (Choose i a) q v r q' v' = Edits (strike_due m v i a) v (chosen_by m v i a) q r q' v'
Did m (Restore i a) q v r q' v' = Edits (restore_due m v i a) v (restored_by m v i a) q r q' v'
Did m (Screen level) q v r q' v' = Screens (screen_due m v.barred level q) m q v r q' v'

pub record Step : Type 0 where
  pub call : Call
  pub handed : Room
  pub answer : Answer
  pub left : Room

abbrev pub Run : Meaning → State → List Step → State → Type 0
Run m v [] v' = v' ≡ v
Run m v (s ∷ ss) v' = (mid : State) × Did m s.call s.handed v s.answer s.left mid × Run m mid ss v'

abbrev pub calls : List Step → List Call
calls [] = []
calls (s ∷ ss) = s.call ∷ calls ss

abbrev pub tally : Meaning → Call → Set → Set
tally m (Strike i a) t = if is_option m i a && not (t i a) then with_one t i a else t
tally m (Choose i a) t = if is_option m i a && not (t i a) then with_others m t i a else t
tally m (Restore i a) t = if is_option m i a && t i a then without_one t i a else t
tally m (Screen level) t = t

abbrev pub tallied_from : Meaning → Set → List Call → Set
tallied_from m t [] = t
tallied_from m t (c ∷ cs) = tallied_from m (tally m c t) cs

abbrev pub tallied : Meaning → List Call → Set
tallied m cs = tallied_from m nothing cs
