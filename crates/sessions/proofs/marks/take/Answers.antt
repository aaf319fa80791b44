use Rattle.std.proofs.Common.{rules}
use Rattle.sessions.proofs.SetWords.{words_without}
use Rattle.sessions.proofs.marks.take.Goals as goal

pub returns : goal.returns
returns c = search (rules, words_without)
