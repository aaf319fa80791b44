use Rattle.std.proofs.Common.{rules}
use Rattle.sessions.proofs.SetWords.{words_with}
use Rattle.sessions.proofs.marks.put.Goals as goal

pub returns : goal.returns
returns c = search (rules, words_with)
