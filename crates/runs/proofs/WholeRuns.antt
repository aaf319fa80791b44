-- Every run of a session newly opened is lawful from its first step to its last.
use Rattle.std.proofs.Common.{◌≡◌, List, [], ◌∷◌, ◌++◌, refl, ap, subst}
use Rattle.meaning.specs.Meaning.{Meaning}
use Rattle.runs.specs.declared.call.Call.{Call}
use Rattle.runs.specs.declared.call.Call.TheVariants.{Strike, Choose, Restore, Screen}
use Rattle.runs.specs.Answers.{Answer}
use Rattle.runs.specs.State.{State, opened}
use Rattle.runs.specs.Screening.{Room}
use Rattle.runs.specs.Runs.{Did, Step, Run, calls}
use Rattle.runs.specs.Law.{After, Holds, LawfulRun, RunLaw, StepSettled}
use Rattle.runs.proofs.Settle.{session_law}

pub run_append : (m : Meaning) (ss : List Step) (s : Step) (v u v' : State) → Run m v ss u
    → Did m s.call s.handed u s.answer s.left v' → Run m v (ss ++ s ∷ []) v'
run_append m [] s v u v' e d = (v', subst (λ (x : State). Did m s.call s.handed x s.answer s.left v') e d, refl)
run_append m (x ∷ ss) s v u v' r d = (r.0, r.1, run_append m ss s r.0 u v' r.2 d)

pub calls_append : (ss : List Step) (s : Step) → calls (ss ++ s ∷ []) ≡ calls ss ++ s.call ∷ []
calls_append [] s = refl
calls_append (x ∷ ss) s = ap (λ (cs : List Call). x.call ∷ cs) (calls_append ss s)

step_settled : (m : Meaning) (ss : List Step) (v : State) → Holds m ss v → (c : Call) (q q' : Room) (r : Answer) (v' : State)
    → Did m c q v r q' v' → StepSettled m (calls ss) c q r q' v'
step_settled m ss v h (Strike i a) q q' r v' d = tt
step_settled m ss v h (Choose i a) q q' r v' d = tt
step_settled m ss v h (Restore i a) q q' r v' d = tt
step_settled m ss v h (Screen level) q q' r v' d = λ l e. h.settles level l e q q' r v' d

goes_on : (m : Meaning) (ss before : List Step) (v v' : State) → After m before v → Run m v ss v' → LawfulRun m (calls before) v ss v'
goes_on m [] before v v' after r = (r, (session_law m before v after).told)
goes_on m (s ∷ ss) before v v' after r =
    let holds = session_law m before v after in
    let further : After m (before ++ s ∷ []) r.0 = record {
      edition_least = after.edition_least;
      edition_most = after.edition_most;
      run = run_append m before s (opened m m.edition) v r.0 after.run r.1;
    } in (
      r.0,
      r.1,
      holds.told,
      step_settled m before v holds s.call s.handed s.left s.answer r.0 r.1,
      subst (λ (cs : List Call). LawfulRun m cs r.0 ss v') (calls_append before s) (goes_on m ss (before ++ s ∷ []) r.0 v' further r.2),
    )

pub run_law : RunLaw
run_law m ss v after =
    let fresh : After m [] (opened m m.edition) = record { edition_least = after.edition_least; edition_most = after.edition_most; run = refl } in
    goes_on m ss [] (opened m m.edition) v fresh after.run
