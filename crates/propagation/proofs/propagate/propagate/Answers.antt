use Rattle.std.proofs.Common.{ℕ, sym, refl, subst, arith}
use Rattle.bags.specs.Bags.{Bag}
use Rattle.bits.specs.Bits.{bit}
use Rattle.bits.proofs.Words.{bit_none}
use Rattle.levels.specs.Sets.{Set, words}
use Rattle.lists.specs.declared.choice.Choice.{Choice}
use Rattle.propagation.specs.declared.domains.Domains.{Domains}
use Rattle.propagation.specs.Lists.{Pending, Marks}
use Rattle.propagation.specs.State.{There, Support}
use Rattle.propagation.proofs.Counting.{support_start, counted_end}
use Rattle.propagation.proofs.Marking.{marks_start}
use Rattle.propagation.proofs.Settling.{sound_start, all_kept, settled}
use Rattle.propagation.proofs.Waiting.{pending_start}
use Rattle.propagation.proofs.propagate.propagate.Goals as goal

pub mark_all-requires-clause-marks : goal.mark_all-requires-clause-marks
mark_all-requires-clause-marks g c =
    let n : ℕ = c.items.result in
    subst (λ (b : Bag ℕ). Marks n (bit 0) b (g.I.WaitingList.room c.args.items.now)) (sym c.requires.empty.1) (marks_start n (g.I.WaitingList.room c.args.items.now) (bit 0) bit_none (omega (arith, c.requires.items, c.items.ensures)))

pub settle-requires-clause-holds : goal.settle-requires-clause-holds
settle-requires-clause-holds g c =
    let m = g.B.RuleBook.meaning c.args.book.now in
    let law = g.B.RuleBook.lawful c.args.book.now in
    let d : Domains = record { kept = c.args.domains.now; seen = c.args.domains.now; marked = c.mark_all.new.marked } in
    let s : Set = words c.args.domains.now in
    let room : ℕ = g.O.WaitingList.room c.args.options.now in
    record {
      sound = sound_start c.args.c m d c.fill_counts.new.counts refl (omega (arith, c.requires.long, c.fill_counts.auto.counts)) c.requires.there (support_start m law s c.fill_counts.new.counts c.fill_counts.ensures.first)
          (λ x xl. c.mark_all.ensures.done x (omega (arith, c.items.ensures, xl)));
      pending = subst (λ (b : Bag Choice). Pending m s s b room) (sym c.requires.empty.0) (pending_start m s room c.requires.options);
      marks = subst (λ (n : ℕ). Marks n (bit c.mark_all.new.marked) (g.I.WaitingList.waits c.mark_all.new.items) (g.I.WaitingList.room c.mark_all.new.items)) c.items.ensures c.mark_all.ensures.marks;
    }

pub returns-clause-largest : goal.returns-clause-largest
returns-clause-largest g c =
    let m = g.B.RuleBook.meaning c.args.book.now in
    let d₀ : Domains = record { kept = c.args.domains.now; seen = c.args.domains.now; marked = c.mark_all.new.marked } in
    let d : Domains = c.settle.new.domains in
    let room : ℕ = g.O.WaitingList.room c.settle.new.options in
    let item_room : ℕ = g.I.WaitingList.room c.settle.new.items in
    let inv = c.settle.ensures.holds in
    settled c.args.c m d c.settle.new.counts room item_room inv d₀ c.settle.ensures.narrowed

pub returns-clause-counted : goal.returns-clause-counted
returns-clause-counted g c =
    let m = g.B.RuleBook.meaning c.args.book.now in
    let law = g.B.RuleBook.lawful c.args.book.now in
    let d : Domains = c.settle.new.domains in
    let room : ℕ = g.O.WaitingList.room c.settle.new.options in
    let item_room : ℕ = g.I.WaitingList.room c.settle.new.items in
    let inv = c.settle.ensures.holds in
    let kept : Set = words d.kept in
    let there : There m kept = λ i a t. let h = inv.sound.there i a (inv.sound.inside i a t) in (h.0, h.1, t) in
    let sup : Support m kept kept c.settle.new.counts =
    subst (λ (s : Set). Support m kept s c.settle.new.counts) (all_kept c.args.c m d c.settle.new.counts room item_room inv) inv.sound.support in
    counted_end m law kept there c.settle.new.counts c.clear_rest.new.counts sup c.clear_rest.ensures.first
