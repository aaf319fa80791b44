use Rattle.checking.proofs.Items.{judges}
use Rattle.checking.proofs.call.is_consistent.Goals as goal

pub returns : goal.returns
returns g c =
    judges c.in_ok-level.level _ c.partner_count-count.ensures.value (g.B.RuleBook.meaning c.args.book.now) (g.B.RuleBook.lawful c.args.book.now)
    c.args.set.now _ c.in_ok-level.ensures _ c.items_hold.ensures
