-- Nine worked junctions: what every session over their books answers.
-- Made m cs c q r v: after the calls cs of a session newly opened with its book's edition, the call c, handed q, was answered r and left the session v
-- Accepts: such a call is always done
-- Leaves: the answer to such a screening, admitted, and the session after it always have the property
-- Answers: such a screening, admitted, is always answered so
-- nothing_at i: refusal 8, nothing consistent, at item i
-- Names m v i: the hint of the session v is item i and nothing else
use Rattle.std.specs.Prelude.{◌≡◌, ℕ, false, ◌↔◌, List, [], ◌∷◌, Some, None, Ok, Err, Option, ◌==◌}
use Rattle.meaning.specs.Meaning.{Meaning}
use Rattle.meaning.specs.declared.refusal.Refusal.TheVariants.{NothingConsistent}
use Rattle.runs.specs.declared.call.Call.{Call}
use Rattle.runs.specs.declared.call.Call.TheVariants.{Strike, Choose, Restore, Screen}
use Rattle.runs.specs.Answers.{Answer, screened}
use Rattle.runs.specs.State.{State}
use Rattle.runs.specs.Screening.{Room}
use Rattle.runs.specs.Runs.{Did, Step, calls}
use Rattle.runs.specs.Law.{After, Admitted, Layout}
use Rattle.runs.specs.Hint.{Hints}
use Rattle.worked.specs.Junctions.{j1, j2, j3, j4, j6, j7}

pub record Made (m : Meaning) (cs : List Call) (c : Call) (q : Room) (r : Answer) (v : State) : Type 0 where
  pub steps : List Step
  pub their_calls : calls steps ≡ cs
  pub session : State
  pub after : After m steps session
  pub left : Room
  pub did : Did m c q session r left v

abbrev pub Accepts : Meaning → List Call → Call → Type 0
Accepts m cs c = (q : Room) (r : Answer) (v : State) → Made m cs c q r v → r ≡ Ok None

abbrev pub Leaves : Meaning → List Call → ℕ → (Answer → State → Type 0) → Type 0
Leaves m cs level P = (q : Room) (r : Answer) (v : State) → Admitted m level q → Made m cs (Screen level) q r v → P r v

abbrev pub Answers : Meaning → List Call → ℕ → Answer → Type 0
Answers m cs level r = Leaves m cs level (λ r' v. r' ≡ r)

abbrev pub nothing_at : ℕ → Answer
nothing_at i = Err (NothingConsistent i)

abbrev pub Names : Meaning → State → ℕ → Type 0
Names m v i = (r : Option ℕ) → Hints m v r ↔ (r ≡ Some i)

pub record Nine : Type 0 where
  -- j1: levels 0 and 1 keep all ten options; level 2 keeps nine and crosses out option 0 of item 0
  pub level_2_crosses_out_the_short_pocket :
      Answers j1 [] 0 (screened 10 0) × Answers j1 [] 1 (screened 10 0) × Leaves j1 [] 2 (λ r v. (r ≡ screened 9 1) × (v.kept 0 0 ≡ false))
  -- three linked items with two options, equal numbers forbidden: level 0 keeps six; levels 1 and 2 refuse 8, item 0
  pub level_1_sees_that_three_do_not_fit_into_two :
      Answers j2 [] 0 (screened 6 0) × Answers j2 [] 1 (nothing_at 0) × Answers j2 [] 2 (nothing_at 0)
  -- four such items with three options: level 2 keeps all twelve, though no layout exists
  pub level_2_does_not_see_that_four_do_not_fit_into_three :
      Answers j3 [] 2 (screened 12 0) × ((f : ℕ → ℕ) → Layout j3 f → ⊥)
  -- one item, its one option struck: every level refuses 8, item 0
  pub the_last_option_struck :
      (level : ℕ) → Answers j4 (Strike 0 0 ∷ []) level (nothing_at 0)
  -- j1 with option 1 of item 0 struck: level 0 refuses 8, item 0; restored, it keeps ten
  pub restoring_takes_back_the_strike :
      Answers j1 (Strike 0 1 ∷ []) 0 (nothing_at 0) × Answers j1 (Strike 0 1 ∷ Restore 0 1 ∷ []) 0 (screened 10 0)
  -- two unlinked items of one option, that of item 1 struck: every level refuses 8, item 1
  pub the_item_with_nothing_left_is_named :
      (level : ℕ) → Answers j6 (Strike 1 0 ∷ []) level (nothing_at 1)
  -- starts 0, 30 and 10, 40 with gap 20: 0 stands with 40 only, 30 with 10 only
  pub only_starts_far_enough_apart_stand_together :
      (b : ℕ) → (j7.together 0 0 1 b ≡ (b == 1)) × (j7.together 0 1 1 b ≡ (b == 0))
  -- j1 after level 2, choose option 0 of item 0: accepted, and level 2 then refuses 8, item 0
  pub what_is_crossed_out_can_be_chosen :
      Accepts j1 (Screen 2 ∷ []) (Choose 0 0) × Answers j1 (Screen 2 ∷ Choose 0 0 ∷ []) 2 (nothing_at 0)
  -- j1 after level 2: the hint names item 1
  pub the_hint_names_the_item_to_decide :
      Leaves j1 [] 2 (λ r v. Names j1 v 1)
