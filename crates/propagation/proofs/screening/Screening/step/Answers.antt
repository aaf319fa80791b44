use Rattle.std.proofs.Common.{T}
use Rattle.bits.specs.Bits.{bit}
use Rattle.propagation.specs.declared.domains.Domains.{Domains}
use Rattle.propagation.proofs.Marking.{marks_in, marks_take}
use Rattle.propagation.proofs.Revising.{narrowed_same}
use Rattle.propagation.proofs.screening.Screening.step.Goals as goal

pub spread_all-requires : goal.spread_all-requires
spread_all-requires g c =
    let m = g.B.RuleBook.meaning c.args.self.now.book.now in
    record {
      holds = record {
        sound = c.revise.ensures.sound;
        pending = c.revise.ensures.pending;
        marks = marks_take m.items (g.I.WaitingList.room c.args.items.now) (bit c.args.domains.now.marked) (g.I.WaitingList.waits c.args.items.now) c.args.i (bit c.revise.new.domains.marked) c.requires.holds.marks c.revise.ensures.marked;
      };
    }

pub revise-requires-clause-marked : goal.revise-requires-clause-marked
revise-requires-clause-marked g c =
    let m = g.B.RuleBook.meaning c.args.self.now.book.now in
    let d : Domains = c.args.domains.now in
    let inv = c.requires.holds in
    let t : T (bit d.marked c.args.i) = marks_in m.items (g.I.WaitingList.room c.args.items.now) (bit d.marked) (g.I.WaitingList.waits c.args.items.now) c.args.i inv.marks in
    (inv.marks.below c.args.i t, t)

pub returns-clause-narrowed : goal.returns-clause-narrowed
returns-clause-narrowed g c =
    let m = g.B.RuleBook.meaning c.args.self.now.book.now in
    narrowed_same c.args.self.now.c m c.args.domains.now c.revise.new.domains c.spread_all.new.domains c.revise.ensures.narrowed c.spread_all.ensures.kept
