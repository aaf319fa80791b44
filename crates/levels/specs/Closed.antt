-- Closed and consistent sets under a condition, and the largest closed one among some options.
-- Closed: each option of the set meets the condition in it
-- NoneEmpty: each item has an option in the set
-- Consistent: closed, with no item empty
-- LargestClosed: k is closed and lies inside the start u, and every closed set inside u lies inside k
use Rattle.std.specs.Prelude.{ℕ, ◌<◌}
use Rattle.meaning.specs.Meaning.{Meaning}
use Rattle.levels.specs.Sets.{Set, Has, Inside}
use Rattle.levels.specs.Levels.{Condition, Meets}

abbrev pub Closed : Condition → Meaning → Set → Type 0
Closed C m s = (i a : ℕ) → Has m s i a → Meets C m s i a

abbrev pub NoneEmpty : Meaning → Set → Type 0
NoneEmpty m s = (i : ℕ) → i < m.items → (a : ℕ) × Has m s i a

abbrev pub Consistent : Condition → Meaning → Set → Type 0
Consistent C m s = Closed C m s × NoneEmpty m s

pub record LargestClosed (C : Condition) (m : Meaning) (u k : Set) : Type 0 where
  pub inside : Inside m k u
  pub closed : Closed C m k
  pub largest : (s : Set) → Inside m s u → Closed C m s → Inside m s k
