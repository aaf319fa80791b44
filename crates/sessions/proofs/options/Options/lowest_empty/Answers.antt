use Rattle.std.proofs.Common.{true, false, rules}
use Rattle.std.proofs.lemmas.Iterator.{first_from_Range}
use Rattle.levels.specs.Sets.{words}
use Rattle.sessions.proofs.BookWords.{Empty, empties}
use Rattle.sessions.proofs.options.Options.lowest_empty.Goals as goal

pub returns : goal.returns
returns g c =
    let m = g.B.RuleBook.meaning c.args.self.now.book.now in
    let s = words c.args.self.now.set.now in
    empties m s c.items.result c.items.ensures c.find.result
    (first_from_Range _ _ _ c.find.result (λ i. Empty m s i true) (λ i. Empty m s i false) c.find.ensures.ran (λ i q k. search rules) (λ i q k. search rules))
