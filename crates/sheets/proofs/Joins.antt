-- Lists that are joined piece by piece, by a number that counts up.
use Rattle.std.proofs.Common.{◌≡◌, ℕ, zero, suc, ◌+◌, ◌<◌, ◌≤◌, List, [], ◌++◌, sym, refl, ap, ◌∙◌, append_assoc, append-nil, add-one, arith}
use Rattle.std.specs.List.{range_with_len, flat_map}

module _ {A : Type 0} where
  pub join_more : (f : ℕ → List A) (a n : ℕ) → flat_map f (range_with_len a (suc n)) ≡ flat_map f (range_with_len a n) ++ f (a + n)
  join_more f a zero = append-nil (f a) ∙ ap f (omega arith)
  join_more f a (suc n) =
      ap (λ (l : List A). f a ++ l) (join_more f (a + 1) n) ∙ sym (append_assoc (f a) (flat_map f (range_with_len (a + 1) n)) (f (a + 1 + n)))
      ∙ ap (λ (x : ℕ). flat_map f (range_with_len a (suc n)) ++ f x) (omega arith)

  pub join_next : (f : ℕ → List A) (n : ℕ) → flat_map f (range_with_len 0 (n + 1)) ≡ flat_map f (range_with_len 0 n) ++ f n
  join_next f n = ap (λ (x : ℕ). flat_map f (range_with_len 0 x)) (add-one n) ∙ join_more f 0 n ∙ ap (λ (x : ℕ). flat_map f (range_with_len 0 n) ++ f x) (omega arith)

  pub join_same : (f g : ℕ → List A) (a n : ℕ) → ((r : ℕ) → r < a + n → f r ≡ g r) → flat_map f (range_with_len a n) ≡ flat_map g (range_with_len a n)
  join_same f g a zero h = refl
  join_same f g a (suc n) h = λ i. h a (omega arith) i ++ join_same f g (a + 1) n (λ r k. h r (omega arith)) i

  -- empty pieces do not show
  pub join_skip : (f : ℕ → List A) (p m : ℕ) → ((r : ℕ) → p ≤ r → r < p + m → f r ≡ []) → flat_map f (range_with_len 0 (p + m)) ≡ flat_map f (range_with_len 0 p)
  join_skip f p zero h = ap (λ (x : ℕ). flat_map f (range_with_len 0 x)) (omega arith)
  join_skip f p (suc m) h =
      let e : p + suc m ≡ suc (p + m) = omega arith in
      ap (λ (x : ℕ). flat_map f (range_with_len 0 x)) e ∙ join_more f 0 (p + m)
      ∙ ap (λ (l : List A). flat_map f (range_with_len 0 (p + m)) ++ l) (ap f (omega arith) ∙ h (p + m) (omega arith) (omega arith))
      ∙ append-nil (flat_map f (range_with_len 0 (p + m))) ∙ join_skip f p m (λ r k l. h r k (omega arith))
