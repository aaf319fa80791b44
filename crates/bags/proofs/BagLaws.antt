-- Laws of bags: one element more, the empty bag, and facts that hold of each element.
use Rattle.std.proofs.Common.{◌≡◌, ◌+◌, Bool, true, cond, List, [], ◌∷◌, ◌++◌, length, sym, refl, ap, ◌∙◌, add-one, arith}
use mathlib.Core.Path.{fun_ext}
use mathlib.Core.List.Perm
use mathlib.Core.List.{perm_append_singleton}
use mathlib.Core.Quot.{sound, Quot-set, ind}
use native.Mathlib.Nat.{ℕ_set}
use Rattle.bags.specs.Bags.{Bag, bag, none, add, size, many, Each}

-- the order in which two elements are added does not count
pub add_swap : {T : Type 0} (x y : T) (b : Bag T) → add x (add y b) ≡ add y (add x b)
add_swap {T} x y b =
    ind {β = λ (b : Bag T). add x (add y b) ≡ add y (add x b)} (λ b. Quot-set (add x (add y b)) (add y (add x b)))
    (λ xs. sound (Perm.swap y x xs)) b

-- nor does the end of a list to which an element is added
pub bag_last : {T : Type 0} (xs : List T) (x : T) → bag (xs ++ x ∷ []) ≡ add x (bag xs)
bag_last xs x = sound (perm_append_singleton x xs)

pub size_add : {T : Type 0} (x : T) (b : Bag T) → size (add x b) ≡ size b + 1
size_add {T} x b =
    ind {β = λ (b : Bag T). size (add x b) ≡ size b + 1} (λ b. ℕ_set (size (add x b)) (size b + 1))
    (λ xs. sym (add-one (length xs))) b

pub many_add : {T : Type 0} (f : T → Bool) (x : T) (b : Bag T) → many f (add x b) ≡ cond (f x) 1 0 + many f b
many_add {T} f x b =
    ind {β = λ (b : Bag T). many f (add x b) ≡ cond (f x) 1 0 + many f b}
    (λ b. ℕ_set (many f (add x b)) (cond (f x) 1 0 + many f b)) (λ xs. refl) b

-- a bag of no elements is the empty bag
pub size_none : {T : Type 0} (b : Bag T) → size b ≡ 0 → b ≡ none
size_none {T} b = ind {β = λ (b : Bag T). size b ≡ 0 → b ≡ none} one_way of_list b
  where
    one_way : (b : Bag T) (p q : size b ≡ 0 → b ≡ none) → p ≡ q
    one_way b p q = fun_ext (λ e. Quot-set b none (p e) (q e))

    of_list : (xs : List T) → length xs ≡ 0 → bag xs ≡ none
    of_list [] e = refl
    of_list (x ∷ xs) e = absurd (omega arith)

-- what a call of `put` leaves where there is room
pub put_one : {T : Type 0} (after before : Bag T) (x : T) (free : Bool) → after ≡ cond free (add x before) before → free ≡ true → after ≡ add x before
put_one {T} after before x free e is = e ∙ ap (λ (b : Bool). cond {A = Bag T} b (add x before) before) is

pub each_one : {T : Type 0} (P : T → Type 0) (x : T) (b : Bag T) → Each P (add x b) → P x
each_one P x b e = e x b refl

pub each_rest : {T : Type 0} (P : T → Type 0) (x : T) (b : Bag T) → Each P (add x b) → Each P b
each_rest P x b e y others is = e y (add x others) (ap (add x) is ∙ add_swap x y others)
