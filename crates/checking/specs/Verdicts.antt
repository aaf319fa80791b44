-- What the checking calls say of the first n words of option bits, for a book of n items.
-- due: the level to judge by, or the refusal that comes first: 5 for the level, 12 for too few words
-- ConsistentSet: the words have no bit of a missing option, and are a consistent set of the level
-- Judges: the answer is the refusal due, or yes exactly where the words are a consistent set
-- option_due: the same with 1 for a missing item and 2 for a missing option behind it
-- FailsFirst: the lowest linked item on which the option fails the level, or none where it meets it
-- Points: the answer is the refusal due, or that item
-- RuledOut: an option that fails is in no closed set inside the words
use Rattle.std.specs.Prelude.{◌≡◌, ℕ, ◌<◌, Bool, IsTrue, ◌↔◌, List, length, Some, None, Ok, Err, Option, Result, nat_le, nat_lt, if◌then◌else◌}
use Rattle.meaning.specs.Meaning.{Meaning}
use Rattle.meaning.specs.declared.refusal.Refusal.{Refusal}
use Rattle.meaning.specs.declared.refusal.Refusal.TheVariants.{NoSuchItem, NoSuchOption, NoSuchLevel, MemoryShort}
use Rattle.levels.specs.Sets.{Set, Has, Inside, Proper, words}
use Rattle.levels.specs.Levels.{Linked, Meets, level_on}
use Rattle.levels.specs.Counts.{level_numbered}
use Rattle.levels.specs.Closed.{Closed, Consistent}
use Rattle.levels.specs.declared.level.Level.{Level}

abbrev pub due : Meaning → ℕ → List ℕ → Result Level Refusal
due m number ws =
    if nat_lt 2 number then Err NoSuchLevel
    else if nat_lt (length ws) m.items then Err MemoryShort
    else level_numbered number

abbrev pub ConsistentSet : Level → Meaning → List ℕ → Type 0
ConsistentSet l m ws = Proper m (words ws) × Consistent (level_on l) m (words ws)

abbrev pub Judges : Meaning → List ℕ → Result Level Refusal → Result Bool Refusal → Type 0
Judges m ws (Err e) r = r ≡ Err e
Judges m ws (Ok l) (Ok yes') = IsTrue yes' ↔ ConsistentSet l m ws
Judges m ws (Ok l) (Err e) = ⊥

abbrev pub option_due : Meaning → ℕ → List ℕ → ℕ → ℕ → Result Level Refusal
option_due m number ws i a =
    if nat_lt 2 number then Err NoSuchLevel
    else if nat_lt (length ws) m.items then Err MemoryShort
    else if nat_le m.items i then Err NoSuchItem
    else if nat_le (m.options i) a then Err NoSuchOption
    else level_numbered number

abbrev pub FailsFirst : Level → Meaning → Set → ℕ → ℕ → Option ℕ → Type 0
FailsFirst l m s i a None = Meets (level_on l) m s i a
FailsFirst l m s i a (Some j) = Linked m i j × (level_on l m s i a j → ⊥) × ((k : ℕ) → k < j → Linked m i k → level_on l m s i a k)

abbrev pub Points : Meaning → List ℕ → ℕ → ℕ → Result Level Refusal → Result (Option ℕ) Refusal → Type 0
Points m ws i a (Err e) r = r ≡ Err e
Points m ws i a (Ok l) (Ok on) = FailsFirst l m (words ws) i a on
Points m ws i a (Ok l) (Err e) = ⊥

abbrev pub RuledOut : Meaning → List ℕ → ℕ → ℕ → Result Level Refusal → Result (Option ℕ) Refusal → Type 0
RuledOut m ws i a (Err e) r = Unit {0}
RuledOut m ws i a (Ok l) (Err e) = Unit {0}
RuledOut m ws i a (Ok l) (Ok None) = Unit {0}
RuledOut m ws i a (Ok l) (Ok (Some j)) = (s : Set) → Inside m s (words ws) → Closed (level_on l) m s → Has m s i a → ⊥
