-- What the check of any book's parts answers, and what the book made of them means, by what the parts mean where they are
-- right and by their own two tests: whether memory suffices, and whether what it holds is right.
use Rattle.std.specs.Prelude.{◌≡◌, ◌≤◌, Bool, true, if◌then◌else◌, is_ok, Ok, Err, Result}
use Rattle.meaning.specs.Blank.{blank}
use Rattle.meaning.specs.Limits.{limits_right}
use Rattle.meaning.specs.Meaning.{Meaning}
use Rattle.meaning.specs.declared.refusal.Refusal.{Refusal}
use Rattle.meaning.specs.declared.refusal.Refusal.TheVariants.{OutOfLimits, MemoryShort}

-- the first condition that fails decides: limits, then sizes, then contents
abbrev pub parts_check : Meaning → Bool → Bool → Result (Unit {0}) Refusal
parts_check m sizes contents =
    if limits_right m.edition m.items
    then (if sizes then (if contents then Ok tt else Err (OutOfLimits 0)) else Err MemoryShort)
    else Err (OutOfLimits 0)

abbrev pub parts_book : Meaning → Bool → Bool → Meaning
parts_book m sizes contents = if is_ok (parts_check m sizes contents) then m else blank

-- 1 to 32 items, and memory enough for them
pub record IsSized (m : Meaning) (sizes : Bool) : Type 0 where
  pub some : 1 ≤ m.items
  pub few : m.items ≤ 32
  pub long : sizes ≡ true
