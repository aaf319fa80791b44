use Rattle.std.proofs.Common.{◌∙◌}
use Rattle.sessions.proofs.BookWords.{but_others}
use Rattle.sessions.proofs.Masks.{bit_minus}
use Rattle.sessions.proofs.start.other_options.Goals as goal

pub returns : goal.returns
returns g c b =
    let m = g.B.RuleBook.meaning c.args.book.now in
    bit_minus c.all_options.result c.one_option.result b c.all_options.type_inv c.one_option.type_inv
    ∙ but_others m (g.B.RuleBook.lawful c.args.book.now) c.args.i c.args.a b c.all_options.result c.one_option.result (c.all_options.ensures b) (c.one_option.ensures b)
