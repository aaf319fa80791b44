-- What each edit leaves of a session.
-- option_due: the refusal due to every edit of option a of i in a session that is not barred, in its order: 1, 2
-- after_strike, after_choose, after_restore: the session after the edit of option a of i, refused or not
use Rattle.std.specs.Prelude.{ℕ, if◌then◌else◌, Ok, Err, Result, nat_le}
use Rattle.meaning.specs.Meaning.{Meaning}
use Rattle.meaning.specs.declared.refusal.Refusal.{Refusal}
use Rattle.meaning.specs.declared.refusal.Refusal.TheVariants.{NoSuchItem, NoSuchOption}
use Rattle.runs.specs.State.{State}
use Rattle.runs.specs.Edits.{edited, strike_due, restore_due, struck_by, chosen_by, restored_by}

abbrev pub option_due : Meaning → ℕ → ℕ → Result (Unit {0}) Refusal
option_due m i a =
    if nat_le m.items i then Err NoSuchItem
    else if nat_le (m.options i) a then Err NoSuchOption
    else Ok tt

abbrev pub after_strike : Meaning → State → ℕ → ℕ → State
after_strike m v i a = edited (strike_due m v i a) v (struck_by v i a)

abbrev pub after_choose : Meaning → State → ℕ → ℕ → State
after_choose m v i a = edited (strike_due m v i a) v (chosen_by m v i a)

abbrev pub after_restore : Meaning → State → ℕ → ℕ → State
after_restore m v i a = edited (restore_due m v i a) v (restored_by m v i a)
