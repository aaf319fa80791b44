use Rattle.levels.specs.Sets.{words}
use Rattle.sessions.proofs.BookWords.{word_empty}
use Rattle.sessions.proofs.options.Options.is_empty.Goals as goal

pub returns : goal.returns
returns g c =
    word_empty (g.B.RuleBook.meaning c.args.self.now.book.now) (words c.args.self.now.set.now) c.args.i c.of_item.result c.of_item.ensures (g.B.RuleBook.lawful c.args.self.now.book.now)
