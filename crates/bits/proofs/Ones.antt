-- How many bits of a word are set, as the population count gives it.
use mathlib.Core.Path.{◌≡◌, sym, ◌∙◌, ap}
use Prim.Native.Nat.{ℕ, zero, suc, ◌+◌, ◌*◌, ◌/◌, ◌%◌, ◌^◌, ◌<◌, ◌≤◌}
use native.Mathlib.Nat.{pow-suc}
use native.Mathlib.Omega.{arith}
use native.Mathlib.Decide.{ℕ_discrete}
use lib.Count.{ones, ones_step, ones-le}
use lib.Dec.{eqb}
use Rattle.bits.specs.Below.{count, one_if}
use Rattle.bits.specs.Bits.{bit}
use Rattle.bits.proofs.Counts.{count_low, count_cong, count_below_none}
use Rattle.bits.proofs.Tests.{eqb_yes, eqb_no}
use Rattle.bits.proofs.Words.{bit_up}

low_bit : (w : ℕ) → one_if (bit w 0) ≡ w % 2
low_bit w =
    ap (λ (z : ℕ). one_if (eqb (z % 2) 1)) (one_down w) ∙ (elim (ℕ_discrete (w % 2) 1) [
      | yes e ↦ ap one_if (eqb_yes (w % 2) 1 e) ∙ sym e
      | no n ↦ ap one_if (eqb_no (w % 2) 1 n) ∙ (let z : 0 ≡ w % 2 = omega arith in z)
    ])
  where
    one_down : (x : ℕ) → x / 2 ^ 0 ≡ x
    one_down x = omega arith

pub ones_count : (n w : ℕ) → w < 2 ^ n → ones w ≡ count n (bit w)
ones_count zero w h = let z : ones w ≤ 0 = ones-le 0 w h in let e : ones w ≡ 0 = omega arith in e ∙ sym (count_below_none (bit w))
ones_count (suc n) w h =
    let p : 2 ^ suc n ≡ 2 ^ n * 2 = pow-suc 2 n in
    let half : w / 2 < 2 ^ n = omega arith in
    let a : ones w ≡ w % 2 + ones (w / 2) = ones_step w in
    let b : ones (w / 2) ≡ count n (bit (w / 2)) = ones_count n (w / 2) half in
    let c : count (suc n) (bit w) ≡ one_if (bit w 0) + count n (λ k. bit w (suc k)) = count_low n (bit w) in
    let d : count n (λ k. bit w (suc k)) ≡ count n (bit (w / 2)) = count_cong n (λ k. bit w (suc k)) (bit (w / 2)) (λ k kl. bit_up w k) in
    let e : one_if (bit w 0) ≡ w % 2 = low_bit w in
    omega (arith, a, b, c, d, e)
