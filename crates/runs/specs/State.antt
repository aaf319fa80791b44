-- A session as its user sees it, and a session newly opened.
-- State: barred or not, the options struck, the options kept
-- nothing: the set without options; is_option: item i has the option a
-- unstruck m s: all options of the book that are not in s
-- opened m asked: the session over m that was asked for the edition `asked`; barred unless that is the book's own
use Rattle.std.specs.Prelude.{ℕ, Bool, true, false, if◌then◌else◌, not, ◌&&◌, ◌==◌, nat_lt}
use Rattle.meaning.specs.Meaning.{Meaning}
use Rattle.meaning.specs.Limits.{within}
use Rattle.levels.specs.Sets.{Set}

pub record State : Type 0 where
  pub barred : Bool
  pub struck : Set
  pub kept : Set

abbrev pub nothing : Set
nothing i a = false

abbrev pub is_option : Meaning → ℕ → ℕ → Bool
is_option m i a = nat_lt i m.items && nat_lt a (m.options i)

abbrev pub unstruck : Meaning → Set → Set
unstruck m s i a = is_option m i a && not (s i a)

abbrev pub opened : Meaning → ℕ → State
opened m asked =
    if within asked 9999 && asked == m.edition
    then record { barred = false; struck = nothing; kept = unstruck m nothing }
    else record { barred = true; struck = nothing; kept = nothing }
