-- What a screening of the options u at a condition comes to, whatever the way it is found.
-- Keeps: k is the largest closed set inside u, and no item is empty in it
-- FindsNone: in the largest closed set inside u, i is the lowest empty item
use Rattle.std.specs.Prelude.{ℕ, ◌<◌}
use Rattle.meaning.specs.Meaning.{Meaning}
use Rattle.levels.specs.Sets.{Set, Has}
use Rattle.levels.specs.Levels.{Condition}
use Rattle.levels.specs.Closed.{LargestClosed, NoneEmpty}

pub record Keeps (C : Condition) (m : Meaning) (u k : Set) : Type 0 where
  pub largest : LargestClosed C m u k
  pub none_empty : NoneEmpty m k

pub record FindsNone (C : Condition) (m : Meaning) (u : Set) (i : ℕ) : Type 0 where
  pub closed : Set
  pub largest : LargestClosed C m u closed
  pub there : i < m.items
  pub empty : (a : ℕ) → Has m closed i a → ⊥
  pub lowest : (j : ℕ) → j < i → (a : ℕ) × Has m closed j a
