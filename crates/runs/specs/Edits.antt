-- What strike, choose and restore say, and what they make of a session. A refused edit changes nothing.
-- edit_due: the refusal due to an edit of option a of i, in its order: 7, 1, 2, then `last` where `bad` holds
-- with_one, without_one: a set with the option a of i more, or less; with_others, without_others: with the other options of i
-- struck_by, chosen_by, restored_by: the session after the edit, where it is not refused
use Rattle.std.specs.Prelude.{ℕ, Bool, if◌then◌else◌, not, ◌&&◌, ◌||◌, is_ok, Ok, Err, Result, ◌==◌, nat_le}
use Rattle.meaning.specs.Meaning.{Meaning}
use Rattle.meaning.specs.declared.refusal.Refusal.{Refusal}
use Rattle.meaning.specs.declared.refusal.Refusal.TheVariants.{NoSuchItem, NoSuchOption, AlreadyStruck, NotStruck, Barred}
use Rattle.levels.specs.Sets.{Set}
use Rattle.runs.specs.State.{State, is_option, unstruck}

abbrev pub edit_due : Meaning → State → ℕ → ℕ → Bool → Refusal → Result (Unit {0}) Refusal
edit_due m v i a bad last =
    if v.barred then Err Barred
    else if nat_le m.items i then Err NoSuchItem
    else if nat_le (m.options i) a then Err NoSuchOption
    else if bad then Err last
    else Ok tt

abbrev pub is_this : ℕ → ℕ → ℕ → ℕ → Bool
is_this i a j b = i == j && a == b

abbrev pub is_other : Meaning → ℕ → ℕ → ℕ → ℕ → Bool
is_other m i a j b = i == j && (not (a == b) && is_option m j b)

abbrev pub with_one : Set → ℕ → ℕ → Set
with_one s i a j b = s j b || is_this i a j b

abbrev pub without_one : Set → ℕ → ℕ → Set
without_one s i a j b = s j b && not (is_this i a j b)

abbrev pub with_others : Meaning → Set → ℕ → ℕ → Set
with_others m s i a j b = s j b || is_other m i a j b

abbrev pub without_others : Meaning → Set → ℕ → ℕ → Set
without_others m s i a j b = s j b && not (is_other m i a j b)

abbrev pub struck_by : State → ℕ → ℕ → State
struck_by v i a = record { barred = v.barred; struck = with_one v.struck i a; kept = without_one v.kept i a }

abbrev pub chosen_by : Meaning → State → ℕ → ℕ → State
chosen_by m v i a = record { barred = v.barred; struck = with_others m v.struck i a; kept = without_others m v.kept i a }

abbrev pub restored_by : Meaning → State → ℕ → ℕ → State
restored_by m v i a = record { barred = v.barred; struck = without_one v.struck i a; kept = unstruck m (without_one v.struck i a) }

abbrev pub strike_due : Meaning → State → ℕ → ℕ → Result (Unit {0}) Refusal
strike_due m v i a = edit_due m v i a (v.struck i a) AlreadyStruck

abbrev pub restore_due : Meaning → State → ℕ → ℕ → Result (Unit {0}) Refusal
restore_due m v i a = edit_due m v i a (not (v.struck i a)) NotStruck

-- the session after an edit that was answered r
abbrev pub edited : Result (Unit {0}) Refusal → State → State → State
edited r before after = if is_ok r then after else before
