-- One condition over a partner count c, of which the levels are the cases 0, 1 and 32.
-- partners: how many partners a has on j
-- count_on c: a partner, and a path partner where there are at most c partners
-- count_of: the count that stands for a level; level_numbered: the level of a number, or the refusal
use Rattle.std.specs.Prelude.{ℕ, ◌≤◌, ◌&&◌, Ok, Err, Result, ◌==◌, if◌then◌else◌}
use Rattle.bits.specs.Below.{count}
use Rattle.meaning.specs.Meaning.{Meaning}
use Rattle.meaning.specs.declared.refusal.Refusal.{Refusal}
use Rattle.meaning.specs.declared.refusal.Refusal.TheVariants.{NoSuchLevel}
use Rattle.levels.specs.Sets.{Set}
use Rattle.levels.specs.Levels.{Condition, ArcOn, PathPartner}
use Rattle.levels.specs.declared.level.Level.{Level}
use Rattle.levels.specs.declared.level.Level.TheVariants.{Arc, RestrictedPath, MaxRestrictedPath}

abbrev pub partners : Meaning → Set → ℕ → ℕ → ℕ → ℕ
partners m s i a j = count (m.options j) (λ b. s j b && m.together i a j b)

abbrev pub count_on : ℕ → Condition
count_on c m s i a j = ArcOn m s i a j × (partners m s i a j ≤ c → (b : ℕ) × PathPartner m s i a j b)

abbrev pub count_of : Level → ℕ
count_of Arc = 0
count_of RestrictedPath = 1
count_of MaxRestrictedPath = 32

abbrev pub level_numbered : ℕ → Result Level Refusal
level_numbered n =
    if n == 0 then Ok Arc
    else if n == 1 then Ok RestrictedPath
    else if n == 2 then Ok MaxRestrictedPath
    else Err NoSuchLevel
