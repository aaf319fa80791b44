use Rattle.std.proofs.Common.{◌≡◌, ℕ, Bool, false, sym, ap, ◌∙◌, subst₂, arith}
use Rattle.bags.specs.Bags.{Bag, add, size}
use Rattle.bags.proofs.BagLaws.{size_add}
use Rattle.bits.specs.Bits.{bit}
use Rattle.propagation.specs.Lists.{Marks}
use Rattle.propagation.proofs.Marking.{marks_put, marks_waits}
use Rattle.propagation.proofs.marks.mark.Goals as goal

pub returns-then-not-has_bit-clause-marks : goal.returns-then-not-has_bit-clause-marks
returns-then-not-has_bit-clause-marks g c =
    let room : ℕ = g.I.WaitingList.room c.args.items.now in
    let w : Bag ℕ = g.I.WaitingList.waits c.args.items.now in
    let new : Bag ℕ = g.I.WaitingList.waits c.put.new.self in
    let f : ℕ → Bool = bit c.args.marked.now in
    let f' : ℕ → Bool = bit c.put_bit.result in
    let clear : f c.args.i ≡ false = sym c.has_bit.ensures ∙ c.if-not-has_bit.true in
    let e : new ≡ add c.args.i w = marks_waits c.args.n room f w new c.args.i c.requires.marks c.requires.there clear c.put.ensures.waiting in
    let more : Marks c.args.n f' (add c.args.i w) room = marks_put c.args.n room f f' w c.args.i c.requires.marks c.requires.there clear c.put_bit.ensures in
    subst₂ (Marks c.args.n f') (sym e) (sym c.put.ensures.capacity) more

pub returns-then-not-has_bit-clause-few : goal.returns-then-not-has_bit-clause-few
returns-then-not-has_bit-clause-few g c =
    let room : ℕ = g.I.WaitingList.room c.args.items.now in
    let w : Bag ℕ = g.I.WaitingList.waits c.args.items.now in
    let e = marks_waits c.args.n room (bit c.args.marked.now) w _ c.args.i c.requires.marks c.requires.there (sym c.has_bit.ensures ∙ c.if-not-has_bit.true) c.put.ensures.waiting in
    omega (arith, ap size e, size_add c.args.i w)
