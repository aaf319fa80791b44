use Rattle.std.proofs.Common.{Bool, not, sym, ap, ◌∙◌}
use Rattle.bits.proofs.Tests.{to_true, to_false}
use Rattle.levels.specs.Tests.{third_test}
use Rattle.propagation.proofs.Rows.{witness_word}
use Rattle.propagation.proofs.Testing.{if_then_is}
use Rattle.propagation.proofs.screening.Screening.is_witnessed_on.Goals as goal

pub returns-then-common : goal.returns-then-common
returns-then-common g c =
    let m = g.B.RuleBook.meaning c.args.self.now.book.now in
    let law = g.B.RuleBook.lawful c.args.self.now.book.now in
    let t : Bool = third_test m c.args.i c.args.j c.args.k in
    if_then_is t
    (λ u. witness_word m law c.args.self.now.rows.now c.args.set.now c.args.i c.args.a c.args.j c.args.b c.args.k c.args.self.now.known c.requires.first c.requires.second c.requires.third u c.common.result c.common.ensures)
    (λ n. c.if-common.true)

pub returns-else-common : goal.returns-else-common
returns-else-common g c =
    let m = g.B.RuleBook.meaning c.args.self.now.book.now in
    let law = g.B.RuleBook.lawful c.args.self.now.book.now in
    let t : Bool = third_test m c.args.i c.args.j c.args.k in
    if_then_is t
    (λ u. ap not (c.is_third.ensures ∙ to_true t u) ∙ (sym c.if-common.false
    ∙ witness_word m law c.args.self.now.rows.now c.args.set.now c.args.i c.args.a c.args.j c.args.b c.args.k c.args.self.now.known c.requires.first c.requires.second c.requires.third u c.common.result c.common.ensures))
    (λ n. ap not (c.is_third.ensures ∙ to_false t n))
