use Rattle.std.proofs.Common.{◌≡◌, false, leb, rules}
use Rattle.levels.specs.Sets.{words}
use Rattle.checking.proofs.Failures.{fails_first, option_admitted, points, ruled_out}
use Rattle.checking.proofs.call.failing_on.Goals as goal

pub returns : goal.returns
returns g c =
    let m = g.B.RuleBook.meaning c.args.book.now in
    let lawful = g.B.RuleBook.lawful c.args.book.now in
    let level = c.in_ok-level.level in
    let no_item : leb m.items c.args.i ≡ false = search rules in
    let no_option : leb (m.options c.args.i) c.args.a ≡ false = search rules in
    let admits = option_admitted m c.args.level c.args.set.now c.args.i c.args.a level c.in_ok-level.ensures no_item no_option in
    let first = fails_first level c.partner_count-count.result c.partner_count-count.ensures.value m lawful (words c.args.set.now) c.args.i c.args.a c.first_failure.result c.first_failure.ensures in
    record {
      points = points level m c.args.set.now c.args.i c.args.a _ admits _ first;
      out = ruled_out level m lawful c.args.set.now c.args.i c.args.a _ admits _ first;
    }
