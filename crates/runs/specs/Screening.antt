-- What a screening says and does, by what it was handed.
-- Room: the count buffer, and of both lists what waits and how much may
-- roomy: the buffer and the lists are large enough for the book, and nothing waits
-- screen_due: the level to screen at, or the refusal due: 7, 5, 6
-- Succeeds: it keeps the largest closed set, answers its size and what it crossed out, and fills the count bytes
-- Fails: it found nothing consistent, so the session stays, and the count bytes are 0
-- Screens: a refused screening changes nothing; else it succeeds or says that nothing is consistent
use Rattle.std.specs.Prelude.{◌≡◌, ℕ, ◌-◌, ◌*◌, ◌<◌, ◌≤◌, Bool, if◌then◌else◌, ◌&&◌, T, List, length, Some, None, Ok, Err, Result, ◌==◌, nat_le, nat_lt, slice_index}
use Rattle.bags.specs.Bags.{Bag, none, size as number}
use Rattle.lists.specs.declared.choice.Choice.{Choice}
use Rattle.meaning.specs.Meaning.{Meaning}
use Rattle.meaning.specs.declared.refusal.Refusal.{Refusal}
use Rattle.meaning.specs.declared.refusal.Refusal.TheVariants.{Barred, NoSuchLevel, NoRoom, NothingConsistent}
use Rattle.levels.specs.Levels.{level_on}
use Rattle.levels.specs.Counts.{level_numbered}
use Rattle.levels.specs.declared.level.Level.{Level}
use Rattle.runs.specs.Answers.{Answer}
use Rattle.runs.specs.declared.call.Outcome.{Outcome}
use Rattle.runs.specs.State.{State, is_option, unstruck}
use Rattle.levels.specs.Counted.{Counted}
use Rattle.levels.specs.Size.{size}
use Rattle.runs.specs.Outcome.{Keeps, FindsNone}

pub record Room : Type 0 where
  pub bytes : List ℕ
  pub items_waiting : Bag ℕ
  pub items_room : ℕ
  pub options_waiting : Bag Choice
  pub options_room : ℕ

abbrev pub roomy : Meaning → Room → Bool
roomy m q =
    nat_le (1024 * m.items) (length q.bytes)
    && (nat_le m.items q.items_room && (nat_le (size m (is_option m)) q.options_room
    && (number q.items_waiting == 0 && number q.options_waiting == 0)))

abbrev pub screen_due : Meaning → Bool → ℕ → Room → Result Level Refusal
screen_due m barred level q =
    if barred then Err Barred
    else if nat_lt 2 level then Err NoSuchLevel
    else if roomy m q then level_numbered level
    else Err NoRoom

-- what it leaves: the same lists emptied, and other bytes only among the first 1024 for each item
pub record Tidy (m : Meaning) (q q' : Room) : Type 0 where
  pub items_empty : q'.items_waiting ≡ none
  pub options_empty : q'.options_waiting ≡ none
  pub items_room : q'.items_room ≡ q.items_room
  pub options_room : q'.options_room ≡ q.options_room
  pub same_length : length q'.bytes ≡ length q.bytes
  pub past : (k : ℕ) → 1024 * m.items ≤ k → slice_index q'.bytes k ≡ slice_index q.bytes k

pub record Succeeds (l : Level) (m : Meaning) (q : Room) (v : State) (o : Outcome) (q' : Room) (v' : State) : Type 0 where
  pub keeps : Keeps (level_on l) m (unstruck m v.struck) v'.kept
  pub only_options : (i a : ℕ) → T (v'.kept i a) → T (is_option m i a)
  pub struck : v'.struck ≡ v.struck
  pub barred : v'.barred ≡ v.barred
  pub number_kept : o.kept ≡ size m v'.kept
  pub number_crossed : o.crossed ≡ size m (unstruck m v.struck) - size m v'.kept
  pub bytes : Counted m v'.kept q'.bytes
  pub tidy : Tidy m q q'

pub record Fails (l : Level) (m : Meaning) (q : Room) (v : State) (i : ℕ) (q' : Room) (v' : State) : Type 0 where
  pub none : FindsNone (level_on l) m (unstruck m v.struck) i
  pub same : v' ≡ v
  pub zero_bytes : (k : ℕ) → k < 1024 * m.items → slice_index q'.bytes k ≡ 0
  pub tidy : Tidy m q q'

-- of a screening that neither 7, 5 nor 6 is due to
abbrev pub Ends : Level → Meaning → Room → State → Answer → Room → State → Type 0
Ends l m q v (Ok None) q' v' = ⊥
Ends l m q v (Ok (Some o)) q' v' = Succeeds l m q v o q' v'
Ends l m q v (Err e) q' v' = (i : ℕ) × (e ≡ NothingConsistent i) × Fails l m q v i q' v'

abbrev pub Screens : Result Level Refusal → Meaning → Room → State → Answer → Room → State → Type 0
Screens (Err e) m q v r q' v' = (r ≡ Err e) × (v' ≡ v) × (q' ≡ q)
Screens (Ok l) m q v r q' v' = Ends l m q v r q' v'
