-- The limits of editions, items and option counts, which are the same for every book made of parts.
-- within x most: the number x lies within 1 to most
-- .._right: an edition with n items, a count, the counts of n items keep the limits
-- options_in: how many options item i has by the counts of n items
use Rattle.std.specs.Prelude.{ℕ, Bool, if◌then◌else◌, ◌&&◌, List, nat_le, nat_lt, slice_index}
use Rattle.bits.specs.Below.{every}

abbrev pub within : ℕ → ℕ → Bool
within x most = nat_le 1 x && nat_le x most

abbrev pub limits_right : ℕ → ℕ → Bool
limits_right edition n = within n 32 && within edition 9999

abbrev pub count_right : List ℕ → ℕ → Bool
count_right counts i = within (slice_index counts i) 32

abbrev pub counts_right : ℕ → List ℕ → Bool
counts_right n counts = every n (count_right counts)

abbrev pub options_in : ℕ → List ℕ → ℕ → ℕ
options_in n counts i = if nat_lt i n then slice_index counts i else 0
