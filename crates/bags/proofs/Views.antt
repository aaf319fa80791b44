-- How many elements a stack and a ring hold, and what one more and one less is to the elements in order.
use Rattle.std.proofs.Common.{◌≡◌, ℕ, suc, ◌+◌, ◌-◌, ◌<◌, ◌≤◌, Bool, true, false, cond, ltb, List, [], ◌∷◌, ◌++◌, length, get_or, take, drop, set, sym, refl, ap, ◌∙◌, append_assoc, append-nil, add-one, arith, length-append, length-drop, drop_of_length-le, length-take, length-take-le, drop-cons, drop-set-lt}
use borrow.Author.Tests.{true-ltb, false-ltb}
use lib.Seq.{take-set-lt, drop-set-add, take-append-le}
use Rattle.std.proofs.lemmas.List.{take_more, take_more_set, take-set-le, set-append_left, set-append_right, take_all}
use Rattle.bags.specs.Bags.{bag, size}
use Rattle.bags.specs.Views.{stacked, turned, ringed, wrapped}

-- A stack.

pub stacked_within : {T : Type 0} (count : ℕ) (xs : List T) → size (bag (stacked count xs)) ≤ length xs
stacked_within count xs = omega (arith, length-take count xs)

pub length_stacked : {T : Type 0} (n : ℕ) (xs : List T) → n ≤ length xs → length (stacked n xs) ≡ n
length_stacked n xs le = length-take-le n xs le

pub stacked_push : {T : Type 0} (n : ℕ) (xs : List T) (x : T) → n < length xs → stacked (n + 1) (set xs n x) ≡ stacked n xs ++ x ∷ []
stacked_push n xs x lt = take_more_set xs n x lt

pub stacked_pop : {T : Type 0} (n : ℕ) (xs : List T) (x : T) → 0 < n → n ≤ length xs → x ≡ get_or xs (n - 1) x → stacked n xs ≡ stacked (n - 1) xs ++ x ∷ []
stacked_pop n xs x some le top =
    let more : n ≡ n - 1 + 1 = omega arith in
    let lt : n - 1 < length xs = omega arith in
    ap (λ k. take k xs) more ∙ take_more xs (n - 1) x lt ∙ ap (λ y. take (n - 1) xs ++ y ∷ []) (sym top)

-- A ring.

pub length_turned : {T : Type 0} (h : ℕ) (xs : List T) → length (turned h xs) ≡ length xs
length_turned h xs = omega (arith, length-append (drop h xs) (take h xs), length-drop h xs, length-take h xs)

pub ringed_within : {T : Type 0} (head count : ℕ) (xs : List T) → size (bag (ringed head count xs)) ≤ length xs
ringed_within head count xs = omega (arith, length-take count (turned head xs), length_turned head xs)

pub length_ringed : {T : Type 0} (h n : ℕ) (xs : List T) → n ≤ length xs → length (ringed h n xs) ≡ n
length_ringed h n xs le = length-take-le n (turned h xs) (omega (arith, length_turned h xs))

-- a write past the head, before the end of the memory
turned_set_near : {T : Type 0} (h n : ℕ) (xs : List T) (x : T) → h + n < length xs → turned h (set xs (h + n) x) ≡ set (turned h xs) n x
turned_set_near h n xs x lt =
    let le : h ≤ h + n = omega arith in
    let inside : n < length (drop h xs) = omega (arith, length-drop h xs) in
    ap (λ r. r ++ take h (set xs (h + n) x)) (drop-set-add h xs n x)
    ∙ ap (λ r. set (drop h xs) n x ++ r) (take-set-le h xs (h + n) x le)
    ∙ sym (set-append_left (drop h xs) (take h xs) n x inside)

-- a write before the head, round the end of the memory
turned_set_far : {T : Type 0} (h n : ℕ) (xs : List T) (x : T) → h ≤ length xs → length xs ≤ h + n → n < length xs → turned h (set xs (h + n - length xs) x) ≡ set (turned h xs) n x
turned_set_far h n xs x le far lt =
    let k : h + n - length xs < h = omega arith in
    let past : length (drop h xs) ≤ n = omega (arith, length-drop h xs) in
    let same : n - length (drop h xs) ≡ h + n - length xs = omega (arith, length-drop h xs) in
    ap (λ r. r ++ take h (set xs (h + n - length xs) x)) (drop-set-lt h xs (h + n - length xs) x k)
    ∙ ap (λ r. drop h xs ++ r) (take-set-lt h xs (h + n - length xs) x k)
    ∙ ap (λ j. drop h xs ++ set (take h xs) j x) (sym same)
    ∙ sym (set-append_right (drop h xs) (take h xs) (length (drop h xs)) n x refl past)

wrapped_cases : (room k : ℕ) (P : ℕ → Type 0) → (k < room → P k) → (room ≤ k → P (k - room)) → P (wrapped room k)
wrapped_cases room k P near far = split (ltb k room) refl
  where
    split : (t : Bool) → t ≡ ltb k room → P (cond t k (k - room))
    split true e = near (true-ltb k room e)
    split false e = far (false-ltb k room e)

turned_set : {T : Type 0} (h n : ℕ) (xs : List T) (x : T) → h ≤ length xs → n < length xs → turned h (set xs (wrapped (length xs) (h + n)) x) ≡ set (turned h xs) n x
turned_set h n xs x le lt =
    wrapped_cases (length xs) (h + n) (λ k. turned h (set xs k x) ≡ set (turned h xs) n x)
    (λ near. turned_set_near h n xs x near) (λ far. turned_set_far h n xs x le far lt)

pub ringed_push : {T : Type 0} (h n : ℕ) (xs : List T) (x : T) → h ≤ length xs → n < length xs → ringed h (n + 1) (set xs (wrapped (length xs) (h + n)) x) ≡ ringed h n xs ++ x ∷ []
ringed_push h n xs x le lt =
    let inside : n < length (turned h xs) = omega (arith, length_turned h xs) in
    ap (take (n + 1)) (turned_set h n xs x le lt) ∙ take_more_set (turned h xs) n x inside

-- the place at the end of the memory is its first
turned_round : {T : Type 0} (n : ℕ) (xs : List T) → n ≡ length xs → turned n xs ≡ turned 0 xs
turned_round n xs e =
    let le : length xs ≤ n = omega arith in
    ap (λ r. r ++ take n xs) (drop_of_length-le xs le) ∙ take_all n xs le ∙ sym (append-nil xs)

turned_wrapped : {T : Type 0} (h : ℕ) (xs : List T) → h < length xs → turned (wrapped (length xs) (h + 1)) xs ≡ turned (h + 1) xs
turned_wrapped h xs lt =
    wrapped_cases (length xs) (h + 1) (λ k. turned k xs ≡ turned (h + 1) xs) (λ near. refl)
    (λ far.
    let end : h + 1 ≡ length xs = omega arith in
    let zero : h + 1 - length xs ≡ 0 = omega arith in
    ap (λ k. turned k xs) zero ∙ sym (turned_round (h + 1) xs end))

-- the memory from the head on, and from the next place on, where x is at the head
turned_here : {T : Type 0} (h : ℕ) (xs : List T) (x : T) → h < length xs → x ≡ get_or xs h x → turned h xs ≡ x ∷ (drop (h + 1) xs ++ take h xs)
turned_here h xs x lt first =
    ap (λ r. r ++ take h xs) (drop-cons xs h x lt ∙ ap (λ y. y ∷ drop (suc h) xs) (sym first) ∙ ap (λ k. x ∷ drop k xs) (sym (add-one h)))

turned_next : {T : Type 0} (h : ℕ) (xs : List T) (x : T) → h < length xs → x ≡ get_or xs h x → turned (h + 1) xs ≡ (drop (h + 1) xs ++ take h xs) ++ x ∷ []
turned_next h xs x lt first =
    ap (λ r. drop (h + 1) xs ++ r) (take_more xs h x lt ∙ ap (λ y. take h xs ++ y ∷ []) (sym first))
    ∙ sym (append_assoc (drop (h + 1) xs) (take h xs) (x ∷ []))

pub ringed_pop : {T : Type 0} (h n : ℕ) (xs : List T) (x : T) → h < length xs → 0 < n → n ≤ length xs → x ≡ get_or xs h x → ringed h n xs ≡ x ∷ ringed (wrapped (length xs) (h + 1)) (n - 1) xs
ringed_pop h n xs x lt some le first =
    let rest = drop (h + 1) xs ++ take h xs in
    let step : n ≡ suc (n - 1) = omega (arith, add-one (n - 1)) in
    let few : n - 1 ≤ length rest = omega (arith, ap length (turned_here h xs x lt first), length_turned h xs) in
    let after : ringed (wrapped (length xs) (h + 1)) (n - 1) xs ≡ take (n - 1) rest =
    ap (take (n - 1)) (turned_wrapped h xs lt ∙ turned_next h xs x lt first) ∙ take-append-le (n - 1) rest (x ∷ []) few in
    ap (λ k. take k (turned h xs)) step ∙ ap (take (suc (n - 1))) (turned_here h xs x lt first) ∙ ap (λ r. x ∷ r) (sym after)
