use Rattle.std.proofs.Common.{ℕ, not, T, refl}
use Rattle.bits.proofs.Tests.{and_l}
use Rattle.levels.specs.Sets.{words}
use Rattle.propagation.specs.declared.domains.Domains.{Domains}
use Rattle.propagation.proofs.Spreading.{support_one, sound_spread}
use Rattle.propagation.proofs.screening.Screening.spread.Goals as goal

pub lower_linked-requires-clause-one : goal.lower_linked-requires-clause-one
lower_linked-requires-clause-one g c =
    let m = g.B.RuleBook.meaning c.args.self.now.book.now in
    let j : ℕ = c.args.j in
    let b : ℕ = c.args.b in
    let d : Domains = c.args.domains.now in
    let t : T (words d.seen j b) = and_l (words d.seen j b) (not (words d.kept j b)) c.requires.out in
    support_one m (words d.kept) (words d.seen) j b c.requires.sound.there t c.args.counts.now c.requires.sound.support c.requires.sound.inside

pub returns-clause-sound : goal.returns-clause-sound
returns-clause-sound g c =
    let m = g.B.RuleBook.meaning c.args.self.now.book.now in
    let law = g.B.RuleBook.lawful c.args.self.now.book.now in
    let j : ℕ = c.args.j in
    let b : ℕ = c.args.b in
    let d : Domains = c.args.domains.now in
    let d' : Domains = record { kept = d.kept; seen = c.take_out.new.set; marked = c.mark_linked.new.marked } in
    sound_spread c.args.self.now.c m law d d' c.args.counts.now c.lower_linked.new.counts j b c.requires.sound c.requires.out refl c.take_out.ensures
    c.mark_linked.ensures.done c.mark_linked.ensures.still c.lower_linked.auto.counts c.lower_linked.ensures.mine c.lower_linked.ensures.others
