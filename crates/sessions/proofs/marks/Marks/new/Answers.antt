use Rattle.std.proofs.Common.{ap, ◌∙◌}
use Rattle.levels.specs.Sets.{Set}
use Rattle.runs.specs.State.{unstruck}
use Rattle.sessions.proofs.SetWords.{words_none}
use Rattle.sessions.proofs.marks.Marks.new.Goals as goal

pub returns : goal.returns
returns g c = record {
  struck = words_none 32;
  kept = c.unstruck_words.ensures ∙ ap (λ (s : Set). unstruck (g.B.RuleBook.meaning c.args.book.now) s) (words_none 32);
}
