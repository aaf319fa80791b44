-- The elements that a memory holds, the oldest first: as a stack, or as a ring that begins at `head`.
-- stacked count xs: the first `count` places of the memory xs
-- turned head xs: the whole memory, read from `head` on and round its end
-- ringed head count xs: the first `count` places of the memory so read
-- wrapped room k: the place k of a ring of `room` places, where k is less than twice as large
use Rattle.std.specs.Prelude.{ℕ, ◌-◌, List, ◌++◌, take, drop, nat_lt, if◌then◌else◌}

abbrev pub stacked : {T : Type 0} → ℕ → List T → List T
stacked count xs = take count xs

abbrev pub turned : {T : Type 0} → ℕ → List T → List T
turned head xs = drop head xs ++ take head xs

abbrev pub ringed : {T : Type 0} → ℕ → ℕ → List T → List T
ringed head count xs = take count (turned head xs)

abbrev pub wrapped : ℕ → ℕ → ℕ
wrapped room k = if nat_lt k room then k else k - room
