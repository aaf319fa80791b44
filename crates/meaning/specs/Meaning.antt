-- A rule book means five things, and every meaning that a book can have keeps the laws below.
-- items: how many items there are, numbered from 0
-- options i: how many options item i has, numbered from 0; none where there is no item i
-- linked i j: the book has a rule between items i and j
-- together i a j b: option a of item i and option b of item j stand together
use Rattle.std.specs.Prelude.{◌≡◌, ℕ, ◌<◌, ◌≤◌, Bool, true, false}

pub record Meaning : Type 0 where
  pub edition : ℕ
  pub items : ℕ
  pub options : ℕ → ℕ
  pub linked : ℕ → ℕ → Bool
  pub together : ℕ → ℕ → ℕ → ℕ → Bool

pub record Lawful (m : Meaning) : Type 0 where
  pub items_least : 1 ≤ m.items
  pub items_most : m.items ≤ 32
  pub options_least : (i : ℕ) → i < m.items → 1 ≤ m.options i
  pub options_most : (i : ℕ) → m.options i ≤ 32
  pub options_missing : (i : ℕ) → m.items ≤ i → m.options i ≡ 0
  pub linked_missing : (i j : ℕ) → m.items ≤ i → m.linked i j ≡ false
  pub linked_self : (i : ℕ) → m.linked i i ≡ false
  pub linked_mutual : (i j : ℕ) → m.linked i j ≡ m.linked j i
  pub together_missing : (i a j b : ℕ) → m.options i ≤ a → m.together i a j b ≡ false
  pub together_mutual : (i a j b : ℕ) → m.together i a j b ≡ m.together j b i a
  pub together_unlinked : (i a j b : ℕ) → m.linked i j ≡ false → a < m.options i → b < m.options j → m.together i a j b ≡ true
