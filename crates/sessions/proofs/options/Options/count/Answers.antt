use Rattle.std.proofs.Common.{◌≤◌, rules}
use lib.Count.{ones, ones-le}
use Rattle.levels.specs.Sets.{words}
use Rattle.sessions.proofs.BookWords.{word_count}
use Rattle.sessions.proofs.options.Options.count.Goals as goal

pub overflow_cast-result : goal.overflow_cast-result
overflow_cast-result g c = let h : ones c.of_item.result ≤ 32 = ones-le 32 c.of_item.result c.of_item.type_inv in search rules

pub returns : goal.returns
returns g c = record {
  value = word_count (g.B.RuleBook.meaning c.args.self.now.book.now) (words c.args.self.now.set.now) c.args.i c.of_item.result c.of_item.ensures (g.B.RuleBook.lawful c.args.self.now.book.now) c.of_item.type_inv;
  most = ones-le 32 c.of_item.result c.of_item.type_inv;
}
