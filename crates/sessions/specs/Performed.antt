-- What calls performed one after the other on a newly opened session come to.
-- answers ss: what the steps were answered
-- Chained q ss q': each screening was handed the buffer and the lists as the call before it left them
-- Performs m asked cs rs q v q': the calls cs on a session over m, opened for the edition asked, were answered rs and left v and q';
-- where that edition is the book's own, the whole run is lawful
use Rattle.std.specs.Prelude.{◌≡◌, ℕ, ◌≤◌, List, [], ◌∷◌}
use Rattle.meaning.specs.Meaning.{Meaning}
use Rattle.runs.specs.Answers.{Answer}
use Rattle.runs.specs.declared.call.Call.{Call}
use Rattle.runs.specs.Law.{LawfulRun}
use Rattle.runs.specs.Runs.{Run, Step, calls}
use Rattle.runs.specs.Screening.{Room}
use Rattle.runs.specs.State.{State, opened}

abbrev pub answers : List Step → List Answer
answers [] = []
answers (s ∷ ss) = s.answer ∷ answers ss

abbrev pub Chained : Room → List Step → Room → Type 0
Chained q [] q' = q' ≡ q
Chained q (s ∷ ss) q' = (s.handed ≡ q) × Chained s.left ss q'

-- the steps of the calls cs, answered rs, from the session v and what it was handed to the session v' and what it left
pub record Steps (m : Meaning) (v : State) (cs : List Call) (rs : List Answer) (q : Room) (v' : State) (q' : Room) : Type 0 where
  pub steps : List Step
  pub their_calls : calls steps ≡ cs
  pub their_answers : answers steps ≡ rs
  pub chained : Chained q steps q'
  pub run : Run m v steps v'

pub record Performs (m : Meaning) (asked : ℕ) (cs : List Call) (rs : List Answer) (q : Room) (v : State) (q' : Room) : Type 0 where
  pub did : Steps m (opened m asked) cs rs q v q'
  pub lawful : asked ≡ m.edition → 1 ≤ asked → asked ≤ 9999 → LawfulRun m [] (opened m asked) did.steps v
