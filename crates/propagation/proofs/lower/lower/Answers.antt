use Rattle.std.proofs.Common.{ℕ, ◌<◌, Bool, length, sym, ◌∙◌, arith}
use Rattle.bits.specs.Bits.{bit}
use Rattle.bits.proofs.Tests.{of_true, of_false}
use Rattle.levels.specs.Counted.{place}
use Rattle.propagation.proofs.Bytes.{lowered_yes, lowered_no}
use Rattle.propagation.proofs.lower.lower.Goals as goal
use Rattle.propagation.proofs.lower.lower.Goals.{then-has_bit, else-has_bit}

pub loop-a-preserved : goal.loop-a-preserved
loop-a-preserved c =
    let i : ℕ = c.args.i in
    let j : ℕ = c.args.j in
    let a : ℕ = c.loop-a.a in
    let f : ℕ → Bool = bit c.args.word in
    let lt : place i a j < length c.loop-a.counts = omega (arith, c.requires.long, c.loop-a.auto.counts) in
    elim c.if-has_bit.branch [
      | then-has_bit w ↦ lowered_yes c.args.counts.now c.loop-a.counts c.if-has_bit.counts i j f a c.loop-a.invariant lt (of_true (sym c.has_bit.ensures ∙ w.if-has_bit.true)) w.counts-is
      | else-has_bit w ↦ lowered_no c.args.counts.now c.loop-a.counts c.if-has_bit.counts i j f a c.loop-a.invariant (of_false (sym c.has_bit.ensures ∙ w.if-has_bit.false)) w.counts-is
    ]

pub returns-clause-others : goal.returns-clause-others
returns-clause-others c =
    λ k h. c.loop-a.invariant.1 k (λ x xl. h x (omega (arith, c.loop-a.auto.a-end, xl)))
