use Rattle.std.proofs.Common.{rules}
use Rattle.sessions.proofs.BookWords.{sum_more}
use Rattle.sessions.proofs.options.Options.size.Goals as goal

pub loop-i-preserved : goal.loop-i-preserved
loop-i-preserved g c = search (rules, sum_more)
