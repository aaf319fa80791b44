-- The conditions as tests that compute. Proofs show that each says the same as its definition, and inner code is held to them.
-- partner_test, witness_test: what `Partner` and `Witness` ask of options that are there
-- third_test: k is a third item linked with both i and j; witnessed_test: on such a k there is a witness
-- path_test: a path partner; on_test: more than c partners or a path partner, which is what the count c asks on one linked item
-- meets_test: on every linked item; closed_test: so does every option of the set
use Rattle.std.specs.Prelude.{ℕ, Bool, not, ◌&&◌, ◌||◌, ◌==◌, nat_lt}
use Rattle.bits.specs.Below.{every, some, if_then}
use Rattle.meaning.specs.Meaning.{Meaning}
use Rattle.levels.specs.Sets.{Set}
use Rattle.levels.specs.Counts.{partners}

abbrev pub partner_test : Meaning → Set → ℕ → ℕ → ℕ → ℕ → Bool
partner_test m s i a j b = s j b && m.together i a j b

abbrev pub witness_test : Meaning → Set → ℕ → ℕ → ℕ → ℕ → ℕ → ℕ → Bool
witness_test m s i a j b k w = s k w && (m.together i a k w && m.together j b k w)

abbrev pub third_test : Meaning → ℕ → ℕ → ℕ → Bool
third_test m i j k = not (k == i) && (not (k == j) && (m.linked i k && m.linked j k))

abbrev pub witnessed_test : Meaning → Set → ℕ → ℕ → ℕ → ℕ → ℕ → Bool
witnessed_test m s i a j b k = if_then (third_test m i j k) (some (m.options k) (witness_test m s i a j b k))

abbrev pub path_test : Meaning → Set → ℕ → ℕ → ℕ → ℕ → Bool
path_test m s i a j b = partner_test m s i a j b && every m.items (witnessed_test m s i a j b)

abbrev pub on_test : ℕ → Meaning → Set → ℕ → ℕ → ℕ → Bool
on_test c m s i a j = nat_lt c (partners m s i a j) || some (m.options j) (path_test m s i a j)

abbrev pub on_linked_test : ℕ → Meaning → Set → ℕ → ℕ → ℕ → Bool
on_linked_test c m s i a j = if_then (m.linked i j) (on_test c m s i a j)

abbrev pub meets_test : ℕ → Meaning → Set → ℕ → ℕ → Bool
meets_test c m s i a = every m.items (on_linked_test c m s i a)

abbrev pub kept_meets_test : ℕ → Meaning → Set → ℕ → ℕ → Bool
kept_meets_test c m s i a = if_then (s i a) (meets_test c m s i a)

abbrev pub closed_test : ℕ → Meaning → Set → Bool
closed_test c m s = every m.items (λ i. every (m.options i) (kept_meets_test c m s i))
