-- One call more makes one step more, and a whole run of a session with its book's edition is lawful.
use Rattle.std.proofs.Common.{◌≡◌, ℕ, ◌≤◌, List, [], ◌∷◌, ◌++◌, sym, refl, ap, ◌∙◌, subst}
use Rattle.meaning.specs.Meaning.{Meaning}
use Rattle.runs.specs.Answers.{Answer}
use Rattle.runs.specs.declared.call.Call.{Call}
use Rattle.runs.specs.Law.{After, LawfulRun}
use Rattle.runs.specs.Runs.{Did, Run, Step}
use Rattle.runs.specs.Screening.{Room}
use Rattle.runs.specs.State.{State, opened}
use Rattle.runs.proofs.WholeRuns.{calls_append, run_append, run_law}
use Rattle.sessions.specs.Performed.{Chained, Performs, Steps, answers}

answers_append : (ss : List Step) (s : Step) → answers (ss ++ s ∷ []) ≡ answers ss ++ s.answer ∷ []
answers_append [] s = refl
answers_append (x ∷ ss) s = ap (λ (rs : List Answer). x.answer ∷ rs) (answers_append ss s)

chained_append : (ss : List Step) (s : Step) (q : Room) → Chained q ss s.handed → Chained q (ss ++ s ∷ []) s.left
chained_append [] s q e = (e, refl)
chained_append (x ∷ ss) s q h = (h.0, chained_append ss s x.left h.1)

pub steps_none : (m : Meaning) (v v' : State) (q : Room) → v' ≡ v → Steps m v [] [] q v' q
steps_none m v v' q e = record { steps = []; their_calls = refl; their_answers = refl; chained = refl; run = e }

pub steps_more : (m : Meaning) (v : State) (cs : List Call) (rs : List Answer) (q : Room) (u : State) (p : Room) → Steps m v cs rs q u p
    → (c : Call) (r : Answer) (p' : Room) (v' : State) → Did m c p u r p' v' → Steps m v (cs ++ c ∷ []) (rs ++ r ∷ []) q v' p'
steps_more m v cs rs q u p h c r p' v' d =
    let s : Step = record { call = c; handed = p; answer = r; left = p' } in
    record {
      steps = h.steps ++ s ∷ [];
      their_calls = calls_append h.steps s ∙ ap (λ (x : List Call). x ++ c ∷ []) h.their_calls;
      their_answers = answers_append h.steps s ∙ ap (λ (x : List Answer). x ++ r ∷ []) h.their_answers;
      chained = chained_append h.steps s q h.chained;
      run = run_append m h.steps s v u v' h.run d;
    }

pub performs : (m : Meaning) (asked : ℕ) (cs : List Call) (rs : List Answer) (q : Room) (v : State) (q' : Room) → Steps m (opened m asked) cs rs q v q'
    → Performs m asked cs rs q v q'
performs m asked cs rs q v q' h = record {
  did = h;
  lawful = λ own least most.
      let after : After m h.steps v = record {
        edition_least = subst (λ (x : ℕ). 1 ≤ x) own least;
        edition_most = subst (λ (x : ℕ). x ≤ 9999) own most;
        run = subst (λ (x : ℕ). Run m (opened m x) h.steps v) own h.run;
      } in
      subst (λ (x : ℕ). LawfulRun m [] (opened m x) h.steps v) (sym own) (run_law m h.steps v after);
}
