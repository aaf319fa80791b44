use Rattle.std.proofs.Common.{ap, ◌∙◌}
use Rattle.levels.specs.Sets.{Set}
use Rattle.levels.specs.Size.{size}
use Rattle.runs.specs.State.{unstruck}
use Rattle.sessions.proofs.SetWords.{words_none}
use Rattle.sessions.proofs.Screens.{all_unstruck}
use Rattle.sessions.proofs.screen.book_size.Goals as goal

pub returns : goal.returns
returns g c =
    let m = g.B.RuleBook.meaning c.args.book.now in
    c.size.ensures ∙ (ap (size m) c.unstruck_words-all.ensures ∙ (ap (λ (s : Set). size m (unstruck m s)) (words_none 32) ∙ ap (size m) (all_unstruck m)))
