-- What waits on the two worklists of a screening.
-- is i a: the choice of option a of item i
-- Pending m kept seen waiting room: on the option list waits, once each, what is seen and no longer kept, and the list has room for all that is seen
-- Marks n marked waiting room: on the item list waits, once each, what is marked; these are items below n, and the list has room for n
use Rattle.std.specs.Prelude.{◌≡◌, ℕ, ◌+◌, ◌<◌, ◌≤◌, Bool, not, ◌&&◌, T, ◌==◌, nat_eq}
use Rattle.bags.specs.Bags.{Bag, many, size as number}
use Rattle.bits.specs.Below.{count, one_if}
use Rattle.meaning.specs.Meaning.{Meaning}
use Rattle.levels.specs.Sets.{Set}
use Rattle.levels.specs.Size.{size}
use Rattle.lists.specs.declared.choice.Choice.{Choice}

abbrev pub is : ℕ → ℕ → Choice → Bool
is i a x = x.item == i && x.option == a

pub record Pending (m : Meaning) (kept seen : Set) (waiting : Bag Choice) (room : ℕ) : Type 0 where
  pub once : (i a : ℕ) → many (is i a) waiting ≡ one_if (seen i a && not (kept i a))
  pub total : number waiting + size m kept ≡ size m seen
  pub fits : size m seen ≤ room

pub record Marks (n : ℕ) (marked : ℕ → Bool) (waiting : Bag ℕ) (room : ℕ) : Type 0 where
  pub once : (x : ℕ) → many (nat_eq x) waiting ≡ one_if (marked x)
  pub total : number waiting ≡ count n marked
  pub below : (x : ℕ) → T (marked x) → x < n
  pub fits : n ≤ room
