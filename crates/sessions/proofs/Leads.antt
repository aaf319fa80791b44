-- The loop of the hint: the best item so far.
-- Leads m v n best: of the items below n the hint would name the first of the pair `best`, which has the second many options kept, or none
use Rattle.std.proofs.Common.{◌≡◌, ℕ, ◌<◌, ◌≤◌, Some, None, Option}
use Rattle.meaning.specs.Meaning.{Meaning}
use Rattle.runs.specs.State.{State}
use Rattle.runs.specs.Hint.{number}

pub record Lead (m : Meaning) (v : State) (n i fewest : ℕ) : Type 0 where
  pub there : i < n
  pub has : number m v i ≡ fewest
  pub open_still : 2 ≤ fewest
  pub least : (j : ℕ) → j < n → 2 ≤ number m v j → fewest ≤ number m v j
  pub lowest : (j : ℕ) → j < i → 2 ≤ number m v j → fewest < number m v j

abbrev pub Leads : Meaning → State → ℕ → Option (ℕ × ℕ) → Type 0
Leads m v n None = (j : ℕ) → j < n → number m v j ≤ 1
Leads m v n (Some p) = Lead m v n p.0 p.1
