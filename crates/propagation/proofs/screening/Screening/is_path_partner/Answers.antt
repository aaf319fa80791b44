use Rattle.std.proofs.Common.{Bool, ◌&&◌, sym, ap, ◌∙◌}
use Rattle.bits.specs.Below.{every}
use Rattle.levels.specs.Sets.{words}
use Rattle.levels.specs.Tests.{witnessed_test}
use Rattle.propagation.proofs.Rows.{partner_word}
use Rattle.propagation.proofs.screening.Screening.is_path_partner.Goals as goal

pub returns-then-has_bit : goal.returns-then-has_bit
returns-then-has_bit g c =
    let m = g.B.RuleBook.meaning c.args.self.now.book.now in
    let e = partner_word m (g.B.RuleBook.lawful c.args.self.now.book.now) c.args.self.now.rows.now c.args.set.now c.args.i c.args.a c.args.j c.args.b c.args.self.now.known c.requires.option c.requires.linked in
    c.is_witnessed.ensures ∙ ap (λ (x : Bool). x && every m.items (witnessed_test m (words c.args.set.now) c.args.i c.args.a c.args.j c.args.b)) (sym c.if-has_bit.true ∙ (c.has_bit.ensures ∙ e))

pub returns-else-has_bit : goal.returns-else-has_bit
returns-else-has_bit g c =
    let m = g.B.RuleBook.meaning c.args.self.now.book.now in
    let e = partner_word m (g.B.RuleBook.lawful c.args.self.now.book.now) c.args.self.now.rows.now c.args.set.now c.args.i c.args.a c.args.j c.args.b c.args.self.now.known c.requires.option c.requires.linked in
    c.if-has_bit.false ∙ ap (λ (x : Bool). x && every m.items (witnessed_test m (words c.args.set.now) c.args.i c.args.a c.args.j c.args.b)) (sym c.if-has_bit.false ∙ (c.has_bit.ensures ∙ e))
