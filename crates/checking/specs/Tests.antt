-- Tests that inner code is held to; proofs show what they say of a set of words.
-- is_item: the word of item i is not 0, has no bit of a missing option, and each of its options meets the count
-- FirstFailure: the lowest linked item on which the count's test fails, or none
use Rattle.std.specs.Prelude.{◌≡◌, ℕ, ◌^◌, ◌<◌, Bool, true, false, not, ◌&&◌, List, Option, MatchOption, ◌==◌, nat_lt, slice_index}
use Rattle.bits.specs.Below.{every}
use Rattle.meaning.specs.Meaning.{Meaning}
use Rattle.levels.specs.Sets.{Set, words}
use Rattle.levels.specs.Tests.{kept_meets_test, meets_test, on_linked_test}

abbrev pub is_item : ℕ → Meaning → List ℕ → ℕ → Bool
is_item c m ws i = not (slice_index ws i == 0) && (nat_lt (slice_index ws i) (2 ^ m.options i) && every (m.options i) (kept_meets_test c m (words ws) i))

abbrev pub FirstFailure : ℕ → Meaning → Set → ℕ → ℕ → Option ℕ → Type 0
FirstFailure c m s i a r =
    MatchOption r (meets_test c m s i a ≡ true)
    (λ j. (j < m.items) × (on_linked_test c m s i a j ≡ false) × (every j (on_linked_test c m s i a) ≡ true))
