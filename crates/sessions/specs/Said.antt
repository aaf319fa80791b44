-- What a session's screening was handed, did and said, in the words of runs.
-- room: the count buffer, and of both lists what waits and how much may
-- answered: a screening's result as the answer of a run
-- at: the session with these options struck and kept
-- Settles: what an admitted screening at level l comes to, with the options t struck
-- Early r P: P holds where the screening was refused before it began, that is with another refusal than 8
use Rattle.std.specs.Prelude.{◌≡◌, ℕ, Bool, List, Some, Ok, Err, Result, ◌≢◌}
use Rattle.bags.specs.Bags.{Bag}
use Rattle.lists.specs.declared.choice.Choice.{Choice}
use Rattle.meaning.specs.Meaning.{Meaning}
use Rattle.meaning.specs.declared.refusal.Refusal.{Refusal}
use Rattle.meaning.specs.declared.refusal.Refusal.TheVariants.{NothingConsistent}
use Rattle.levels.specs.Sets.{Set, words}
use Rattle.levels.specs.declared.level.Level.{Level}
use Rattle.runs.specs.Answers.{Answer}
use Rattle.runs.specs.declared.call.Outcome.{Outcome}
use Rattle.runs.specs.Screening.{Room, Succeeds, Fails}
use Rattle.runs.specs.State.{State}
use Rattle.sessions.specs.declared.settled.Settled.{Settled}

abbrev pub room : List ℕ → Bag Choice → ℕ → Bag ℕ → ℕ → Room
room bytes options options_room items items_room = record {
  bytes = bytes;
  items_waiting = items;
  items_room = items_room;
  options_waiting = options;
  options_room = options_room;
}

abbrev pub answered : Result Outcome Refusal → Answer
answered (Ok o) = Ok (Some o)
answered (Err e) = Err e

abbrev pub at : Bool → Set → Set → State
at barred struck kept = record { barred = barred; struck = struck; kept = kept }

abbrev pub Settles : Level → Meaning → Room → Set → Result Settled Refusal → Room → Type 0
Settles l m q t (Ok s) q' = (b : Bool) (k : Set) → Succeeds l m q (at b t k) s.outcome q' (at b t (words s.words))
Settles l m q t (Err e) q' = (i : ℕ) × (e ≡ NothingConsistent i) × ((b : Bool) (k : Set) → Fails l m q (at b t k) i q' (at b t k))

abbrev pub Early : Result Outcome Refusal → Type 0 → Type 0
Early (Ok o) P = Unit {0}
Early (Err e) P = ((i : ℕ) → e ≢ NothingConsistent i) → P
