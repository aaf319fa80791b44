-- `try_fold` over the numbers below a bound, where each that passes takes one away, in the words of `Below`.
use Rattle.std.proofs.Common.{◌≡◌, ℕ, suc, ◌+◌, Bool, true, not, List, ◌∷◌, [], nat_lt, is_some, Option, Some, None, MatchOption, refl, subst, sym, ap, ◌∙◌, arith}
use Rattle.std.proofs.iter.Yields.{nat_range_steps}
use Rattle.std.proofs.lemmas.Bool.Decides.{nat_tests}
use Rattle.std.specs.ControlFlow.{continue_value}
use Rattle.std.specs.Fn.{Called}
use Rattle.std.specs.Iterator.{TryFoldTurn, Yields, YieldsThen}
use Rattle.std.specs.List.{FoldsTo}
use Rattle.std.specs.declared.ops.ControlFlow.{ControlFlow}
use Rattle.std.specs.declared.ops.ControlFlow.TheVariants.{Break, Continue}
use Rattle.std.specs.declared.ops.Range.{Range}
use denote.Param.Members.{Mut}
use Rattle.bits.specs.Below.{count, one_if}
use Rattle.bits.proofs.Counts.{count_below_none, count_up}

more : (p : ℕ → Bool) (k : ℕ) → count (suc k) p ≡ one_if (p k) + count k p
unfolding count
more p k = refl

module _ {F : Type 0} (E : Type 0) {g : Mut F (ℕ × (ℕ × Unit {0})) (Option ℕ)} (p : ℕ → Bool) (f : F)
    (turn : (l x : ℕ) (v : Option ℕ) (q : F) → Called g f (l, (x, tt)) v q → (q ≡ f) × MatchOption v ((p x ≡ true) × (l ≡ 0)) (λ k. k + one_if (p x) ≡ l)) where
  abbrev goes_on : Option ℕ → ControlFlow E ℕ → Type 0
  goes_on v r = v ≡ continue_value r

  -- as many are taken from l as pass on the way from s to t
  left_over : (xs : List ℕ) (s t : Range ℕ) (l : ℕ) (z : F × ℕ) → Yields nat_range_steps s xs t → FoldsTo {P = F × ℕ} (TryFoldTurn g goes_on) (f, l) xs z
      → (z.0 ≡ f) × (t.end ≡ s.end) × (count t.start p + z.1 ≡ count s.start p + l)
  left_over [] s t l z y d = rw (← y, ← d) (refl, refl, refl)
  left_over (x ∷ xs) s t l z y d =
      let m = y.0 in
      let w = d.0 in
      let here = turn l x d.1.0 w.0 d.1.1 in
      let one : w.1 + one_if (p x) ≡ l = subst (λ (v : Option ℕ). MatchOption v ((p x ≡ true) × (l ≡ 0)) (λ k. k + one_if (p x) ≡ l)) d.1.2 here.1 in
      let rest = left_over xs m t w.1 z y.2 (subst (λ (q : F). FoldsTo {P = F × ℕ} (TryFoldTurn g goes_on) (q, w.1) xs z) here.0 d.2) in
      let at : m.start ≡ suc s.start = omega arith in
      let upto = ap (λ k. count k p) at in
      let same : one_if (p x) ≡ one_if (p s.start) = ap (λ k. one_if (p k)) y.1.1.1 in
      let next = more p s.start in
      (rest.0, omega arith, omega (arith, rest.2, upto, same, next, one))

  -- the fold breaks off exactly where more than c pass
  pub folds_below : (n c : ℕ) (u : Range ℕ) (r : Option ℕ) (b : Bool)
      → (xs : List ℕ) × (o : Option ℕ) × (j : F) × (a : ℕ) × YieldsThen nat_range_steps (record { start = 0; end = n }) xs o u × FoldsTo {P = F × ℕ} (TryFoldTurn g goes_on) (f, c) xs (j, a)
      × MatchOption o (goes_on r (Continue a)) (λ x. (v : Option ℕ) × (h : F) × (e : E) × Called g j (a, (x, tt)) v h × goes_on v (Break e) × (r ≡ None))
      → is_some r ≡ not b → b ≡ nat_lt c (count n p)
  folds_below n c u r b d says = ends d.1 d.4.2 d.6
    where
      left : (d.2 ≡ f) × (d.4.0.end ≡ n) × (count d.4.0.start p + d.3 ≡ count 0 p + c)
      left = left_over d.0 (record { start = 0; end = n }) d.4.0 c (d.2, d.3) d.4.1 d.5

      ends : (o : Option ℕ) → nat_range_steps d.4.0 o u → MatchOption o (goes_on r (Continue d.3)) (λ x. (v : Option ℕ) × (h : F) × (e : E) × Called g d.2 (d.3, (x, tt)) v h × goes_on v (Break e) × (r ≡ None)) → b ≡ nat_lt c (count n p)
      ends None k t =
          let up = count_up n d.4.0.start p (omega (arith, left.1, k)) in
          let none = count_below_none p in
          grind (arith, nat_tests, left.2, up, none, t, says)
      ends (Some x) k t =
          let here = turn d.3 x t.0 t.1 (subst (λ (q : F). Called g q (d.3, (x, tt)) t.0 t.1) left.0 t.3) in
          let passes : (p x ≡ true) × (d.3 ≡ 0) = subst (λ (v : Option ℕ). MatchOption v ((p x ≡ true) × (d.3 ≡ 0)) (λ k. k + one_if (p x) ≡ d.3)) t.4 here.1 in
          let up = count_up (suc d.4.0.start) n p (omega (arith, left.1, k)) in
          let next = more p d.4.0.start in
          let one : one_if (p d.4.0.start) ≡ 1 = ap (λ k. one_if (p k)) (sym k.1.1) ∙ ap one_if passes.0 in
          let none = count_below_none p in
          grind (arith, nat_tests, left.2, up, none, next, one, passes.1, t.5, says)
