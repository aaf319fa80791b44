use Rattle.meaning.proofs.ClearanceLaws.{counts_hold}
use Rattle.meaning.proofs.OptionCounts.{option_small}
use Rattle.books.proofs.clearance.ClearancePartsParts.together.Goals as goal

pub green_start-first-requires-clause-option : goal.green_start-first-requires-clause-option
green_start-first-requires-clause-option c = option_small _ _ (counts_hold c.args.self.now c.requires.right) c.args.i c.args.a c.requires.first

pub green_start-second-requires-clause-option : goal.green_start-second-requires-clause-option
green_start-second-requires-clause-option c = option_small _ _ (counts_hold c.args.self.now c.requires.right) c.args.j c.args.b c.requires.second
