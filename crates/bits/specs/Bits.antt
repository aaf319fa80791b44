-- A number as a row of bits.
-- bit w k: bit k of the word w is set, bit 0 being the lowest
use Rattle.std.specs.Prelude.{Bool, ℕ, ◌/◌, ◌%◌, ◌^◌, ◌==◌}

abbrev pub bit : ℕ → ℕ → Bool
bit w k = w / 2 ^ k % 2 == 1
