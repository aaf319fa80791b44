-- The invariant of a screening: what holds of the domains, the support counts and the worklists between any two of its steps.
-- There m s: each option of the set is one that the book has
-- Sub s t: each option of s is one of t
-- Support m kept seen bytes: the count of each kept option on each linked item is its number of partners among those seen
-- Met c m kept seen marked: each kept option of an item that is not marked meets the count c among those seen
-- Sound c m d bytes: the part of the invariant that speaks of no list
-- Invariant: the whole
-- Narrowed c m before after: options were only crossed out, and no closed set inside what was kept is lost
-- Past m old new: the bytes past the table are as they were
-- work m d waiting: what is left to do at most, which no step raises
use Rattle.std.specs.Prelude.{◌≡◌, ℕ, ◌+◌, ◌*◌, ◌≤◌, Bool, T, List, length, slice_index}
use Rattle.bags.specs.Bags.{Bag, size as number}
use Rattle.bits.specs.Bits.{bit}
use Rattle.meaning.specs.Meaning.{Meaning}
use Rattle.levels.specs.Sets.{Set, Has, Inside, words}
use Rattle.levels.specs.Levels.{Linked, Meets}
use Rattle.levels.specs.Counts.{partners, count_on}
use Rattle.levels.specs.Closed.{Closed}
use Rattle.levels.specs.Size.{size}
use Rattle.lists.specs.declared.choice.Choice.{Choice}
use Rattle.propagation.specs.declared.domains.Domains.{Domains}
use Rattle.levels.specs.Counted.{byte}
use Rattle.propagation.specs.Lists.{Pending, Marks}

abbrev pub There : Meaning → Set → Type 0
There m s = (i a : ℕ) → T (s i a) → Has m s i a

abbrev pub Sub : Set → Set → Type 0
Sub s t = (i a : ℕ) → T (s i a) → T (t i a)

abbrev pub Support : Meaning → Set → Set → List ℕ → Type 0
Support m kept seen bytes = (i a j : ℕ) → Has m kept i a → Linked m i j → byte bytes i a j ≡ partners m seen i a j

abbrev pub Met : ℕ → Meaning → Set → Set → (ℕ → Bool) → Type 0
Met c m kept seen marked = (i a : ℕ) → Has m kept i a → (T (marked i) → ⊥) → Meets (count_on c) m seen i a

pub record Sound (c : ℕ) (m : Meaning) (d : Domains) (bytes : List ℕ) : Type 0 where
  pub long : 1024 * m.items ≤ length bytes
  pub there : There m (words d.seen)
  pub inside : Sub (words d.kept) (words d.seen)
  pub support : Support m (words d.kept) (words d.seen) bytes
  pub met : Met c m (words d.kept) (words d.seen) (bit d.marked)

pub record Invariant (c : ℕ) (m : Meaning) (d : Domains) (bytes : List ℕ) (options : Bag Choice) (room : ℕ) (items : Bag ℕ) (item_room : ℕ) : Type 0 where
  pub sound : Sound c m d bytes
  pub pending : Pending m (words d.kept) (words d.seen) options room
  pub marks : Marks m.items (bit d.marked) items item_room

pub record Narrowed (c : ℕ) (m : Meaning) (before after : Domains) : Type 0 where
  pub less : Sub (words after.kept) (words before.kept)
  pub safe : (s : Set) → Closed (count_on c) m s → Inside m s (words before.kept) → Inside m s (words after.kept)

abbrev pub Past : Meaning → List ℕ → List ℕ → Type 0
Past m old new = (k : ℕ) → 1024 * m.items ≤ k → slice_index new k ≡ slice_index old k

abbrev pub work : Meaning → Domains → Bag ℕ → ℕ
work m d waiting = 32 * size m (words d.seen) + number waiting
