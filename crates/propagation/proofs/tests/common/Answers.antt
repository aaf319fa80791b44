use Rattle.std.proofs.Common.{◌≡◌, ℕ, ◌^◌, ◌<◌, Bool, ◌&&◌, T, eqb, sym, ap, ◌∙◌, subst, arith, eqb→eq}
use native.Mathlib.Decide.{dec_lt}
use lib.Bits.{bit_and, and_le_l}
use Rattle.bits.specs.Below.{some}
use Rattle.bits.specs.Bits.{bit}
use Rattle.bits.proofs.Belows.{some_e, some_i}
use Rattle.bits.proofs.Tests.{not_e, not_i, of_true, of_false, same_T, eqb_yes}
use Rattle.bits.proofs.Words.{bit_of_and, bit_high, some_bit, bit_there}
use Rattle.propagation.proofs.Rows.{and_swap}
use Rattle.propagation.proofs.tests.common.Goals as goal

pub returns : goal.returns
returns c =
    let x : ℕ = c.args.x in
    let y : ℕ = c.args.y in
    let z : ℕ = c.args.z in
    let v : ℕ = bit_and (bit_and x y) z in
    let f : ℕ → Bool = λ w. bit z w && (bit x w && bit y w) in
    let all : (w : ℕ) → bit v w ≡ f w =
    λ w. bit_of_and (bit_and x y) z w ∙ (ap (λ (b : Bool). b && bit z w) (bit_of_and x y w) ∙ and_swap (bit x w && bit y w) (bit z w)) in
    let low : v < 2 ^ 32 = omega (arith, and_le_l x y, and_le_l (bit_and x y) z) in
    let few : (w : ℕ) → T (bit v w) → w < 32 = λ w t. elim (dec_lt w 32) [ yes l ↦ l | no n ↦ absurd (of_false (bit_high v 32 w low (omega arith)) t) ] in
    same_T _ (some 32 f)
    (λ t. let r = some_bit v (λ e. not_e (eqb v 0) t (of_true (eqb_yes v 0 e))) in some_i 32 f r.0 (few r.0 r.1) (subst T (all r.0) r.1))
    (λ t. let r = some_e 32 f t in not_i (eqb v 0) (λ u. bit_there v r.0 (subst T (sym (all r.0)) r.2) (eqb→eq v 0 u)))
