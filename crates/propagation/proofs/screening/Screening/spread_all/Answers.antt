use Rattle.std.proofs.Common.{◌≡◌, ℕ, List, sym, ap, ◌∙◌, subst, subst₂, arith}
use mathlib.Core.Path.{fun_ext}
use Rattle.bags.specs.Bags.{Bag, size}
use Rattle.bags.proofs.BagLaws.{size_add}
use Rattle.levels.specs.Sets.{Set, words}
use Rattle.levels.specs.Size.{size as options-of}
use Rattle.levels.proofs.Crossing.{without}
use Rattle.lists.specs.declared.choice.Choice.{Choice}
use Rattle.propagation.specs.declared.domains.Domains.{Domains}
use Rattle.propagation.specs.Lists.{Pending}
use Rattle.propagation.proofs.Waiting.{pending_in, pending_drop}
use Rattle.propagation.proofs.screening.Screening.spread_all.Goals as goal

pub loop-x-preserved : goal.loop-x-preserved
loop-x-preserved g c =
    let m = g.B.RuleBook.meaning c.args.self.now.book.now in
    let d : Domains = c.loop-x.domains in
    let d' : Domains = c.spread.new.domains in
    let x : Choice = c.in-Some.x in
    let w : Bag Choice = g.O.WaitingList.waits c.take.new.self in
    let room : ℕ = g.O.WaitingList.room c.loop-x.options in
    let inv = c.loop-x.invariant.0 in
    let q : Pending m (words d.kept) (without (words d.seen) x.item x.option) w room = pending_drop m (words d.kept) (words d.seen) room w x (g.O.WaitingList.waits c.loop-x.options) c.in-Some.ensures.waiting inv.pending inv.sound.there in
    let es : words d'.seen ≡ without (words d.seen) x.item x.option =
    subst₂ (λ (j b : ℕ). words d'.seen ≡ without (words d.seen) j b) c.from-j.ensures c.from-b.ensures (fun_ext (λ i. fun_ext (λ a. c.spread.ensures.seen i a))) in
    let r : Pending m (words d'.kept) (words d'.seen) w room = subst₂ (λ (k s : Set). Pending m k s w room) (sym (ap words c.spread.ensures.kept)) (sym es) q in
    let one = ap size c.in-Some.ensures.waiting ∙ size_add x w in
    let kept = ap (λ (k : List ℕ). options-of m (words k)) c.spread.ensures.kept in (
      record {
        sound = c.spread.ensures.sound;
        pending = subst (Pending m (words d'.kept) (words d'.seen) w) (sym c.in-Some.ensures.capacity) r;
        marks = c.spread.ensures.marks;
      },
      c.spread.ensures.kept ∙ c.loop-x.invariant.1,
      omega (arith, one, kept, inv.pending.total, r.total, c.spread.ensures.few, c.loop-x.invariant.2),
      c.in-Some.ensures.capacity ∙ c.loop-x.invariant.3,
      c.spread.ensures.capacity ∙ c.loop-x.invariant.4,
      λ k h. c.spread.ensures.past k h ∙ c.loop-x.invariant.5 k h,
    )

pub spread-requires-clause-out : goal.spread-requires-clause-out
spread-requires-clause-out g c =
    let d : Domains = c.loop-x.domains in
    let room : ℕ = g.O.WaitingList.room c.loop-x.options in
    rw (c.from-j.ensures, c.from-b.ensures)
    (pending_in (g.B.RuleBook.meaning c.args.self.now.book.now) (words d.kept) (words d.seen) room (g.O.WaitingList.waits c.take.new.self) c.in-Some.x (g.O.WaitingList.waits c.loop-x.options) c.in-Some.ensures.waiting c.loop-x.invariant.0.pending)
