use Rattle.std.proofs.Common.{rules}
use Rattle.bits.proofs.Words.{bit_of_and}
use Rattle.sessions.proofs.options.Options.of_item.Goals as goal

pub returns : goal.returns
returns g c = search (rules, bit_of_and)
