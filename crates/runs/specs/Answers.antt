-- What a session says to a call.
-- Answer: nothing more to an edit that was done, its outcome to a screening that succeeded, or a refusal
-- screened n x: the outcome of n options kept and x crossed out
use Rattle.std.specs.Prelude.{ℕ, Some, Ok, Option, Result}
use Rattle.meaning.specs.declared.refusal.Refusal.{Refusal}
use Rattle.runs.specs.declared.call.Outcome.{Outcome}

abbrev pub Answer : Type 0
Answer = Result (Option Outcome) Refusal

abbrev pub screened : ℕ → ℕ → Answer
screened n x = Ok (Some (record { kept = n; crossed = x }))
