-- A bag is elements with repeats and no order: a list up to permutation.
-- Bag T: the bags of elements of T
-- bag xs: the elements of the list xs
-- none: the bag with no elements
-- add x b: b with one x more
-- size b: how many elements b has, repeats counted
-- passing f xs, many f b: how many elements of a list, of a bag, pass the test f
-- Each P b: P holds of each element x, those for which b is x and others
use Rattle.std.specs.Prelude.{◌≡◌, ℕ, suc, ◌+◌, Bool, if◌then◌else◌, List, [], ◌∷◌, length, refl}
use Rattle.std.proofs.Common.{ap, ◌∙◌, arith}
use Rattle.std.proofs.Math.Logic.{∥∥₁_elim}
use mathlib.Core.List.Perm
use mathlib.Core.List.{Perm, Permᴰ}
use mathlib.Core.Quot.{Quot, mk, sound, lift, Quot-set}
use Rattle.std.proofs.Math.Nat.{ℕ_set}

abbrev pub Bag : Type 0 → Type 0
Bag T = Quot (Perm {A = T})

abbrev pub bag : {T : Type 0} → List T → Bag T
bag xs = mk xs

abbrev pub none : {T : Type 0} → Bag T
none = bag []

abbrev pub add : {T : Type 0} → T → Bag T → Bag T
add x b = lift Quot-set (λ xs. bag (x ∷ xs)) (λ xs ys p. sound (Perm.cons x p)) b

-- A lemma that stands here only because `size` is defined by it: permuted lists have one length.
length_permᴰ : {T : Type 0} {xs ys : List T} → Permᴰ xs ys → length xs ≡ length ys
length_permᴰ Permᴰ.nil = refl
length_permᴰ (Permᴰ.cons e d) = ap suc (length_permᴰ d)
length_permᴰ (Permᴰ.swap e f) = refl
length_permᴰ (Permᴰ.trans d e) = length_permᴰ d ∙ length_permᴰ e

pub length_perm : {T : Type 0} (xs ys : List T) → Perm xs ys → length xs ≡ length ys
length_perm xs ys p = ∥∥₁_elim p (ℕ_set (length xs) (length ys)) length_permᴰ

abbrev pub size : {T : Type 0} → Bag T → ℕ
size b = lift ℕ_set length length_perm b

-- 1 for an element that passes the test (bags use no other crate, so they say it themselves)
abbrev pub one_if : Bool → ℕ
one_if b = if b then 1 else 0

abbrev pub passing : {T : Type 0} → (T → Bool) → List T → ℕ
passing f [] = 0
passing f (x ∷ xs) = one_if (f x) + passing f xs

-- A lemma that stands here only because `many` is defined by it: of permuted lists, as many elements pass.
passing_permᴰ : {T : Type 0} (f : T → Bool) {xs ys : List T} → Permᴰ xs ys → passing f xs ≡ passing f ys
passing_permᴰ {T} f Permᴰ.nil = refl
passing_permᴰ {T} f (Permᴰ.cons e d) =
    let p = ap (λ (x : T). one_if (f x)) e in
    let q = passing_permᴰ f d in
    omega arith
passing_permᴰ {T} f (Permᴰ.swap e g) =
    let p = ap (λ (x : T). one_if (f x)) e in
    let q = ap (λ (x : T). one_if (f x)) g in
    omega arith
passing_permᴰ {T} f (Permᴰ.trans d e) = passing_permᴰ f d ∙ passing_permᴰ f e

pub passing_perm : {T : Type 0} (f : T → Bool) (xs ys : List T) → Perm xs ys → passing f xs ≡ passing f ys
passing_perm f xs ys p = ∥∥₁_elim p (ℕ_set (passing f xs) (passing f ys)) (passing_permᴰ f)

abbrev pub many : {T : Type 0} → (T → Bool) → Bag T → ℕ
many f b = lift ℕ_set (passing f) (passing_perm f) b

abbrev pub Each : {T : Type 0} → (T → Type 0) → Bag T → Type 0
Each {T} P b = (x : T) (others : Bag T) → b ≡ add x others → P x
