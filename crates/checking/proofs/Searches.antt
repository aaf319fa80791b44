-- `find`, and `nth` after `filter`, over the numbers below a bound, in the words of `Below`.
use Rattle.std.proofs.Common.{◌≡◌, ℕ, suc, zero, ◌+◌, ◌<◌, ◌≤◌, Bool, true, false, not, cond, List, ◌∷◌, length, filter, nat_lt, is_some, Option, Some, None, MatchOption, slice_get, Bor, sym, ap, ◌∙◌, arith}
use Rattle.std.proofs.iter.Yields.{nat_range_steps}
use Rattle.std.proofs.lemmas.Bool.Decides.{nat_tests}
use Rattle.std.proofs.lemmas.Iterator.{YieldsList-from_range, first_from_Range}
use Rattle.std.proofs.lemmas.Iterator.Consumers.{YieldsList-from_filter, nth_from_yields_List}
use Rattle.std.proofs.lemmas.Option.{slice_get_within, slice_get-get_or}
use Rattle.std.specs.Fn.{CalledAt}
use Rattle.std.specs.Iterator.{YieldsThen}
use Rattle.std.specs.Iterator.Adapters.{filter_source, filter_callee, filter_steps}
use Rattle.std.specs.List.{range_with_len, FoldsTo}
use Rattle.std.specs.Option.{option_map}
use Rattle.std.specs.declared.iter.Filter.{Filter}
use Rattle.std.specs.declared.ops.Range.{Range}
use denote.Param.Members.{Mut}
use Rattle.bits.specs.Below.{every, count, one_if}
use Rattle.bits.proofs.Belows.{every_i}
use Rattle.bits.proofs.Tests.{to_true, of_true}
use Rattle.bits.proofs.Counts.{count_below_none, count_low, count_cong}

-- `find` of a number that fails the test p
pub first_below : {F : Type 0} {g : Mut F (Bor ℕ × Unit {0}) Bool} (n : ℕ) (p : ℕ → Bool) (u : Range ℕ) (f : F) (r : Option ℕ)
    → (xs : List ℕ) × (j : F) × YieldsThen nat_range_steps (record { start = 0; end = n }) xs r u × FoldsTo (λ p x q. CalledAt g p x false q) f xs j × MatchOption r (Unit {0}) (λ x. (h : F) × CalledAt g j x true h)
    → ((x : ℕ) (b : Bool) (q : F) → CalledAt g f x b q → (q ≡ f) × (b ≡ not (p x))) → MatchOption r (every n p ≡ true) (λ k. (k < n) × (p k ≡ false) × (every k p ≡ true))
first_below n p u f r ran call =
    by_case r
    (first_from_Range (record { start = 0; end = n }) u f r (λ k. p k ≡ false) (λ k. p k ≡ true) ran (λ x q k. let e = (call x true q k).1 in grind (arith, nat_tests))
    (λ x q k. let e = call x false q k in (e.0, grind (arith, nat_tests))))
  where
    all : (n : ℕ) → ((k : ℕ) → 0 ≤ k → k < n → p k ≡ true) → every n p ≡ true
    all n h = to_true (every n p) (every_i n p (λ k lt. of_true (h k (omega arith) lt)))

    by_case : (r : Option ℕ) → MatchOption r ((k : ℕ) → 0 ≤ k → k < n → p k ≡ true) (λ k. (0 ≤ k) × (k < n) × (p k ≡ false) × ((l : ℕ) → 0 ≤ l → l < k → p l ≡ true))
        → MatchOption r (every n p ≡ true) (λ k. (k < n) × (p k ≡ false) × (every k p ≡ true))
    by_case None h = all n h
    by_case (Some k) h = (h.1, h.2, all k h.3)

length_if : (b : Bool) (x : ℕ) (xs : List ℕ) → length (cond b (x ∷ xs) xs) ≡ one_if b + length xs
length_if true x xs = omega arith
length_if false x xs = omega arith

passing_from : (p : ℕ → Bool) (a n : ℕ) → length (filter p (range_with_len a n)) ≡ count n (λ k. p (a + k))
passing_from p a zero = sym (count_below_none (λ k. p (a + k)))
passing_from p a (suc n) =
    let first = length_if (p a) a (filter p (range_with_len (a + 1) n)) in
    let rest = passing_from p (a + 1) n in
    let low = count_low n (λ k. p (a + k)) in
    let same = count_cong n (λ k. p (a + 1 + k)) (λ k. p (a + suc k)) (λ k lt. ap p (omega arith)) in
    let here : one_if (p (a + 0)) ≡ one_if (p a) = ap (λ k. one_if (p k)) (omega arith) in
    omega arith

there_if : (xs : List ℕ) (c : ℕ) (r : Option ℕ) → option_map (λ x. x) r ≡ slice_get xs c → is_some r ≡ nat_lt c (length xs)
there_if xs c None e = grind (arith, nat_tests, slice_get-get_or xs c 0)
there_if xs c (Some x) e = let lt = slice_get_within xs c x (sym e) in grind (arith, nat_tests)

-- `nth` of those that pass the test p: there is one at place c exactly where more than c pass
pub more_below : {F : Type 0} {g : Mut F (Bor ℕ × Unit {0}) Bool} {s : Filter (Range ℕ) F} {f : F} (p : ℕ → Bool) (n c : ℕ) (u : Filter (Range ℕ) F) (r : Option ℕ)
    → filter_source s ≡ record { start = 0; end = n } → filter_callee s ≡ f
    → (xs : List ℕ) × YieldsThen (filter_steps nat_range_steps g) s xs r u × MatchOption r (length xs ≤ c) (λ _. length xs ≡ c)
    → ((x : ℕ) (b : Bool) (q : F) → CalledAt g f x b q → (q ≡ f) × (b ≡ p x)) → is_some r ≡ nat_lt c (count n p)
more_below {F} {g} p n c u r source callee ran call =
    let there = there_if (filter p (range_with_len 0 n)) c r (nth_from_yields_List r u c ran (YieldsList-from_filter g p (YieldsList-from_range 0 n n source (omega arith)) callee call)) in
    there ∙ ap (nat_lt c) (passing_from p 0 n ∙ count_cong n (λ k. p (0 + k)) p (λ k lt. ap p (omega arith)))
