-- What the calls of a waiting list answer, and which elements wait after them.
-- put_answer b room: the answer of `put` where the elements of b wait: a refusal when they fill the room, and only then
-- put_waits x b room: the elements that wait after it
-- Taken r before after: `take` answers r, one of the elements before, and the others stay; or None, where there are none
-- Of a list that keeps an order, with the elements listed from the oldest to the newest:
-- put_order x xs room: the elements after `put`, where x is the newest
-- TakenOldest, TakenNewest: `take` answers the first, or the last, of the elements before
use Rattle.std.specs.Prelude.{◌≡◌, ℕ, List, [], ◌∷◌, ◌++◌, length, Ok, Err, Option, Result, MatchOption, nat_lt, if◌then◌else◌}
use Rattle.bags.specs.Bags.{Bag, none, add, size}
use Rattle.meaning.specs.declared.refusal.Refusal.{Refusal}
use Rattle.meaning.specs.declared.refusal.Refusal.TheVariants.{NoRoom}

abbrev pub put_answer : {T : Type 0} → Bag T → ℕ → Result (Unit {0}) Refusal
put_answer b room = if nat_lt (size b) room then Ok tt else Err NoRoom

abbrev pub put_waits : {T : Type 0} → T → Bag T → ℕ → Bag T
put_waits x b room = if nat_lt (size b) room then add x b else b

abbrev pub Taken : {T : Type 0} → Option T → Bag T → Bag T → Type 0
Taken r before after = MatchOption r ((before ≡ none) × (after ≡ none)) (λ x. before ≡ add x after)

abbrev pub put_order : {T : Type 0} → T → List T → ℕ → List T
put_order x xs room = if nat_lt (length xs) room then xs ++ x ∷ [] else xs

abbrev pub TakenOldest : {T : Type 0} → Option T → List T → List T → Type 0
TakenOldest r before after = MatchOption r ((before ≡ []) × (after ≡ [])) (λ x. before ≡ x ∷ after)

abbrev pub TakenNewest : {T : Type 0} → Option T → List T → List T → Type 0
TakenNewest r before after = MatchOption r ((before ≡ []) × (after ≡ [])) (λ x. before ≡ after ++ x ∷ [])
