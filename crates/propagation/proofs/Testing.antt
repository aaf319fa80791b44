-- What the tests of a third item and of a linked one answer.
use Rattle.std.proofs.Common.{◌≡◌, ℕ, Bool, true, false, not, ◌&&◌, T, eqb}
use Rattle.bits.specs.Below.{if_then}
use Rattle.bits.proofs.Tests.{and_l, and_r}
use Rattle.meaning.specs.Meaning.{Meaning}
use Rattle.levels.specs.Tests.{third_test}

-- what a test answers where its condition holds, and where it does not
pub if_then_is : (a : Bool) {b x : Bool} → (T a → x ≡ b) → ((T a → ⊥) → x ≡ true) → x ≡ if_then a b
if_then_is true yes' no' = yes' tt
if_then_is false yes' no' = no' (λ t. t)

pub third_links : (m : Meaning) (i j k : ℕ) → T (third_test m i j k) → T (m.linked i k) × T (m.linked j k)
third_links m i j k t =
    let u : T (m.linked i k && m.linked j k) = and_r (not (eqb k j)) (m.linked i k && m.linked j k) (and_r (not (eqb k i)) _ t) in
    (and_l (m.linked i k) (m.linked j k) u, and_r (m.linked i k) (m.linked j k) u)
