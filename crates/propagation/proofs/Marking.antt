-- The item list: one item more and one less, what a marked item and the empty list mean.
use Rattle.std.proofs.Common.{◌≡◌, ℕ, ◌+◌, ◌<◌, ◌≤◌, Bool, true, false, cond, not, ◌&&◌, ◌||◌, T, eqb, ltb, sym, refl, ap, ◌∙◌, subst, inl, inr, arith, eqb→eq, lt-ltb}
use lib.Dec.{eqb_refl}
use Rattle.bags.specs.Bags.{Bag, none, add, many, size as number}
use Rattle.bags.proofs.BagLaws.{many_add, size_add, put_one}
use Rattle.lists.specs.Calls.{put_waits}
use Rattle.bits.specs.Below.{count, one_if}
use Rattle.bits.proofs.Counts.{count_none, count_le, count_drop, one_if_back, one_if_none}
use Rattle.bits.proofs.Tests.{and_l, or_cases, or_r, to_true, of_true, of_false, same_T, eqb_yes}
use Rattle.propagation.specs.Lists.{Marks}

pub marks_start : (n room : ℕ) (f : ℕ → Bool) → ((x : ℕ) → f x ≡ false) → n ≤ room → Marks n f none room
marks_start n room f h le = record {
  once = λ x. sym (ap one_if (h x));
  total = (let z : count n f ≤ 0 = count_none n f (λ k kl t. of_false (h k) t) in omega arith);
  below = λ x t. absurd (of_false (h x) t);
  fits = le;
}

put_once : (p f : Bool) → (T p → T f → ⊥) → cond p 1 0 + one_if f ≡ one_if (f || p)
put_once true true h = absurd (h tt tt)
put_once true false h = refl
put_once false true h = refl
put_once false false h = refl

or_clear : (f p : Bool) → (T p → T f → ⊥) → f ≡ ((f || p) && not p)
or_clear true true h = absurd (h tt tt)
or_clear true false h = refl
or_clear false true h = refl
or_clear false false h = refl

eqb_sym : (x y : ℕ) → eqb x y ≡ eqb y x
eqb_sym x y = same_T (eqb x y) (eqb y x) (λ t. of_true (eqb_yes y x (sym (eqb→eq x y t)))) (λ t. of_true (eqb_yes x y (sym (eqb→eq y x t))))

module _ (n room : ℕ) (f f' : ℕ → Bool) (w : Bag ℕ) (x : ℕ) where
  pub marks_put : Marks n f w room → x < n → f x ≡ false → ((k : ℕ) → f' k ≡ (f k || eqb x k)) → Marks n f' (add x w) room
  marks_put l lt no' h =
      let clear : (k : ℕ) → T (eqb x k) → T (f k) → ⊥ = λ k e t. of_false no' (subst (λ (y : ℕ). T (f y)) (sym (eqb→eq x k e)) t) in
      record {
        once = λ k.
            many_add (eqb k) x w
            ∙ (ap (λ (b : Bool). cond b 1 0 + many (eqb k) w) (eqb_sym k x)
            ∙ (ap (λ (z : ℕ). cond (eqb x k) 1 0 + z) (l.once k)
            ∙ (put_once (eqb x k) (f k) (clear k) ∙ ap one_if (sym (h k)))));
        total =
            (let e = count_drop n f' f x lt (of_true (h x ∙ to_true (f x || eqb x x) (or_r (f x) (eqb x x) (eqb_refl x))))
            (λ k kl. or_clear (f k) (eqb x k) (clear k) ∙ ap (λ (b : Bool). b && not (eqb x k)) (sym (h k))) in
            let s = size_add x w in
            omega (arith, e, s, l.total));
        below = λ k t. elim (or_cases (f k) (eqb x k) (subst T (h k) t)) [ inl a ↦ l.below k a | inr b ↦ subst (λ (y : ℕ). y < n) (eqb→eq x k b) lt ];
        fits = l.fits;
      }

one_more : (p : Bool) (z : ℕ) → T p → 1 ≤ cond p 1 0 + z
one_more true z t = omega arith
one_more false z t = absurd t

take_once : (p f : Bool) (z : ℕ) → (T p → T f) → cond p 1 0 + z ≡ one_if f → z ≡ one_if (f && not p)
take_once true true z h e = omega arith
take_once true false z h e = absurd (h tt)
take_once false true z h e = omega arith
take_once false false z h e = omega arith

module _ (n room : ℕ) (f : ℕ → Bool) (w : Bag ℕ) (x : ℕ) where
  pub marks_in : Marks n f (add x w) room → T (f x)
  marks_in l =
      one_if_back (f x) (subst (λ (k : ℕ). 1 ≤ k) (sym (many_add (eqb x) x w) ∙ l.once x) (one_more (eqb x x) (many (eqb x) w) (eqb_refl x)))

  pub marks_take : (f' : ℕ → Bool) → Marks n f (add x w) room → ((k : ℕ) → f' k ≡ (f k && not (eqb x k))) → Marks n f' w room
  marks_take f' l h =
      let t = marks_in l in
      record {
        once = λ k.
            take_once (eqb x k) (f k) (many (eqb k) w) (λ e. subst (λ (y : ℕ). T (f y)) (eqb→eq x k e) t)
            (ap (λ (b : Bool). cond b 1 0 + many (eqb k) w) (eqb_sym x k) ∙ (sym (many_add (eqb k) x w) ∙ l.once k))
            ∙ ap one_if (sym (h k));
        total =
            (let e = count_drop n f f' x (l.below x t) t (λ k kl. h k) in
            let s = size_add x w in
            omega (arith, e, s, l.total));
        below = λ k u. l.below k (and_l (f k) (not (eqb x k)) (subst T (h k) u));
        fits = l.fits;
      }

  pub marks_free : Marks n f w room → x < n → f x ≡ false → number w < room
  marks_free l lt no' =
      let f' : ℕ → Bool = λ k. f k || eqb x k in
      let more = marks_put n room f f' w x l lt no' (λ k. refl) in
      let s = size_add x w in
      omega (arith, more.total, s, count_le n f', l.fits)

-- the list takes an item that is not marked yet
pub marks_waits : (n room : ℕ) (f : ℕ → Bool) (w new : Bag ℕ) (x : ℕ) → Marks n f w room → x < n → f x ≡ false → new ≡ put_waits x w room → new ≡ add x w
marks_waits n room f w new x l lt no' is = put_one new w x (ltb (number w) room) is (lt-ltb (number w) room (marks_free n room f w x l lt no'))

pub marks_end : (n room : ℕ) (f : ℕ → Bool) → Marks n f none room → (x : ℕ) → T (f x) → ⊥
marks_end n room f l x t = one_if_none (f x) (sym (l.once x)) t
