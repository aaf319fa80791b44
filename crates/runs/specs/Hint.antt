-- The hint names the item at which a designer should decide next.
-- number m v i: how many options of item i are kept
-- Hints m v r: r is the item with the fewest kept options among those with two or more, the lowest on ties, or none
use Rattle.std.specs.Prelude.{ℕ, ◌<◌, ◌≤◌, Some, None, Option}
use Rattle.bits.specs.Below.{count}
use Rattle.meaning.specs.Meaning.{Meaning}
use Rattle.runs.specs.State.{State}

abbrev pub number : Meaning → State → ℕ → ℕ
number m v i = count (m.options i) (v.kept i)

pub record Chosen (m : Meaning) (v : State) (i : ℕ) : Type 0 where
  pub there : i < m.items
  pub open_still : 2 ≤ number m v i
  pub fewest : (j : ℕ) → j < m.items → 2 ≤ number m v j → number m v i ≤ number m v j
  pub lowest : (j : ℕ) → j < i → 2 ≤ number m v j → number m v i < number m v j

abbrev pub Hints : Meaning → State → Option ℕ → Type 0
Hints m v (Some i) = Chosen m v i
Hints m v None = (i : ℕ) → i < m.items → number m v i ≤ 1
