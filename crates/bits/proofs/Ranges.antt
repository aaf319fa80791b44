-- `all` and `any` over the numbers below a bound, in the words of `Below`.
-- Each lemma takes the test, the bound, the call's clause `ran`, and what one call of the closure answers.
use Rattle.std.proofs.Common.{arith, List}
use mathlib.Core.Path.{◌≡◌, refl, sym, subst, ◌∙◌}
use mathlib.Core.Bool.{Bool, true, false}
use mathlib.Core.Logic.{inl, inr}
use Prim.Native.Nat.{ℕ, zero, suc, ◌+◌, ◌<◌, ◌≤◌}
use native.Mathlib.Decide.{ℕ_discrete}
use denote.Param.Members.{Mut}
use lib.Dec.{T}
use Rattle.std.proofs.iter.Yields.{nat_range_steps}
use Rattle.std.proofs.lemmas.Iterator.{YieldsList-from_range}
use Rattle.std.proofs.lemmas.Iterator.Search.{all_from_yields_List, any_from_yields_List}
use Rattle.std.specs.List.{list_all, list_any, range_with_len, FoldsTo}
use Rattle.std.specs.Fn.{Called}
use Rattle.std.specs.Iterator.{YieldsThen}
use Rattle.std.specs.Option.{MatchOption}
use Rattle.std.specs.declared.option.Option.{Option}
use Rattle.std.specs.declared.ops.Range.{Range}
use Rattle.bits.specs.Below.{every, some}
use Rattle.bits.proofs.Tests.{and_l, and_r, and_i, or_cases, or_l, or_r, same_T}
use Rattle.bits.proofs.Belows.{every_e, every_i, some_e, some_i}

all_e : (test : ℕ → Bool) (a n : ℕ) → T (list_all test (range_with_len a n)) → (k : ℕ) → a ≤ k → k < a + n → T (test k)
all_e test a zero h k l u = absurd (omega arith)
all_e test a (suc n) h k l u =
    elim (ℕ_discrete a k) [
      | yes e ↦ subst (λ (x : ℕ). T (test x)) e (and_l (test a) (list_all test (range_with_len (a + 1) n)) h)
      | no ne ↦ all_e test (a + 1) n (and_r (test a) (list_all test (range_with_len (a + 1) n)) h) k (omega arith) (omega arith)
    ]

all_i : (test : ℕ → Bool) (a n : ℕ) → ((k : ℕ) → a ≤ k → k < a + n → T (test k)) → T (list_all test (range_with_len a n))
all_i test a zero h = tt
all_i test a (suc n) h =
    and_i (test a) (list_all test (range_with_len (a + 1) n)) (h a (omega arith) (omega arith)) (all_i test (a + 1) n (λ k l u. h k (omega arith) (omega arith)))

any_e : (test : ℕ → Bool) (a n : ℕ) → T (list_any test (range_with_len a n)) → (k : ℕ) × (k < a + n) × T (test k)
any_e test a zero h = absurd h
any_e test a (suc n) h =
    elim (or_cases (test a) (list_any test (range_with_len (a + 1) n)) h) [
      | inl t ↦ (a, omega arith, t)
      | inr t ↦ let r = any_e test (a + 1) n t in (r.0, omega arith, r.2)
    ]

any_i : (test : ℕ → Bool) (a n k : ℕ) → a ≤ k → k < a + n → T (test k) → T (list_any test (range_with_len a n))
any_i test a zero k l u t = absurd (omega arith)
any_i test a (suc n) k l u t =
    elim (ℕ_discrete a k) [
      | yes e ↦ or_l (test a) (list_any test (range_with_len (a + 1) n)) (subst (λ (x : ℕ). T (test x)) (sym e) t)
      | no ne ↦ or_r (test a) (list_any test (range_with_len (a + 1) n)) (any_i test (a + 1) n k (omega arith) (omega arith) t)
    ]

every_list : (n : ℕ) (test : ℕ → Bool) → list_all test (range_with_len 0 n) ≡ every n test
every_list n test =
    same_T (list_all test (range_with_len 0 n)) (every n test) (λ t. every_i n test (λ k l. all_e test 0 n t k (omega arith) (omega arith))) (λ t. all_i test 0 n (λ k l u. every_e n test t k (omega arith)))

some_list : (n : ℕ) (test : ℕ → Bool) → list_any test (range_with_len 0 n) ≡ some n test
some_list n test =
    same_T (list_any test (range_with_len 0 n)) (some n test) (λ t. let r = any_e test 0 n t in some_i n test r.0 (omega arith) r.2) (λ t. let r = some_e n test t in any_i test 0 n r.0 (omega arith) (omega arith) r.2)

pub all_below : {F : Type 0} {g : Mut F (ℕ × Unit {0}) Bool} (n : ℕ) (test : ℕ → Bool) (u : Range ℕ) (f : F) (r : Bool)
    → (xs : List ℕ) × (o : Option ℕ) × (j : F) × YieldsThen nat_range_steps (record { start = 0; end = n }) xs o u × FoldsTo (λ p x q. Called g p (x, tt) true q) f xs j × MatchOption o (r ≡ true) (λ x. (r ≡ false) × ((h : F) × Called g j (x, tt) false h))
    → ((x : ℕ) (b : Bool) (q : F) → Called g f (x, tt) b q → (q ≡ f) × (b ≡ test x)) → r ≡ every n test
all_below n test u f r ran call =
    all_from_yields_List test u f r ran (YieldsList-from_range 0 n n refl (omega arith)) call ∙ every_list n test

pub any_below : {F : Type 0} {g : Mut F (ℕ × Unit {0}) Bool} (n : ℕ) (test : ℕ → Bool) (u : Range ℕ) (f : F) (r : Bool)
    → (xs : List ℕ) × (o : Option ℕ) × (j : F) × YieldsThen nat_range_steps (record { start = 0; end = n }) xs o u × FoldsTo (λ p x q. Called g p (x, tt) false q) f xs j × MatchOption o (r ≡ false) (λ x. (r ≡ true) × ((h : F) × Called g j (x, tt) true h))
    → ((x : ℕ) (b : Bool) (q : F) → Called g f (x, tt) b q → (q ≡ f) × (b ≡ test x)) → r ≡ some n test
any_below n test u f r ran call =
    any_from_yields_List test u f r ran (YieldsList-from_range 0 n n refl (omega arith)) call ∙ some_list n test
