-- What a session's words mean.
-- shown: the marks of a session as its user sees them; without marks it is barred
-- view: the session as its user sees it
-- is_shown: whether the session shows the option a of item i as one of the set s
use Rattle.std.specs.Prelude.{ℕ, Bool, true, false, not, ◌&&◌, Some, None, Option}
use Rattle.meaning.specs.Meaning.{Meaning}
use Rattle.levels.specs.Sets.{Set, words}
use Rattle.runs.specs.State.{State, is_option, nothing}
use Rattle.sessions.specs.declared.marks.Marks.{Marks}
use Rattle.sessions.specs.declared.session.Session.{Session}

abbrev pub shown : Option Marks → State
shown None = record { barred = true; struck = nothing; kept = nothing }
shown (Some k) = record { barred = false; struck = words k.struck; kept = words k.kept }

abbrev pub view : {B : Type 0} → Session B → State
view s = shown s.marks

abbrev pub is_shown : Meaning → Bool → Set → ℕ → ℕ → Bool
is_shown m barred s i a = not barred && (is_option m i a && s i a)
