-- What the hint of a session says.
-- HintSays m v r: a barred session answers so; another one names the item that the hint's definition asks for
use Rattle.std.specs.Prelude.{◌≡◌, ℕ, true, false, Ok, Err, Option, Result}
use Rattle.meaning.specs.Meaning.{Meaning}
use Rattle.meaning.specs.declared.refusal.Refusal.{Refusal}
use Rattle.meaning.specs.declared.refusal.Refusal.TheVariants.{Barred}
use Rattle.runs.specs.State.{State}
use Rattle.runs.specs.Hint.{Hints}

abbrev pub HintSays : Meaning → State → Result (Option ℕ) Refusal → Type 0
HintSays m v (Ok h) = (v.barred ≡ false) × Hints m v h
HintSays m v (Err e) = (v.barred ≡ true) × (e ≡ Barred)
