use Rattle.std.proofs.Common.{◌≢◌, arith, rules}
use Rattle.meaning.proofs.GridContents.{counts_hold, linked_apart}
use Rattle.meaning.proofs.OptionCounts.{item_there, option_small}
use Rattle.books.proofs.grid.GridPartsParts.together.Goals as goal

pub row_word-requires-clause-option : goal.row_word-requires-clause-option
row_word-requires-clause-option c = option_small _ _ (counts_hold c.args.self.now c.requires.right) c.args.i c.args.a c.requires.first

pub row_word-requires-else-i-j-clause-lower : goal.row_word-requires-else-i-j-clause-lower
row_word-requires-else-i-j-clause-lower c =
    let there = item_there _ _ c.args.i c.args.a c.requires.first in
    let apart : c.args.i ≢ c.args.j = linked_apart c.args.self.now c.requires.right c.args.i c.args.j there (search rules) in omega arith

pub row_word-requires-else-i-j-clause-option : goal.row_word-requires-else-i-j-clause-option
row_word-requires-else-i-j-clause-option c = option_small _ _ (counts_hold c.args.self.now c.requires.right) c.args.j c.args.b c.requires.second
