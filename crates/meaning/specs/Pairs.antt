-- Two items i < j have the pair number start j + i: 0, 1, 2, .. in the order (0,1), (0,2), (1,2), (0,3), ..
-- start j: the first pair number of item j, which is how many pairs there are below item j
-- pairs_for n: how many pairs n items have, which is one above their last pair number
use Rattle.std.specs.Prelude.{ℕ, ◌+◌, ◌-◌, ◌*◌, ◌/◌}

unfoldable pub start : ℕ → ℕ
start j = j * (j - 1) / 2

abbrev pub pair : ℕ → ℕ → ℕ
pair i j = start j + i

abbrev pub pairs_for : ℕ → ℕ
pairs_for n = n * (n - 1) / 2
