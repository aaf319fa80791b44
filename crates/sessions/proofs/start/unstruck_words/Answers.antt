use Rattle.std.proofs.Common.{◌≡◌, ℕ, rules}
use Rattle.bits.specs.Bits.{bit}
use Rattle.levels.specs.Sets.{words}
use Rattle.runs.specs.State.{unstruck}
use Rattle.sessions.proofs.BookWords.{words_all}
use Rattle.sessions.proofs.SetWords.{made_at}
use Rattle.sessions.proofs.start.unstruck_words.Goals as goal

pub returns : goal.returns
returns g c =
    let m = g.B.RuleBook.meaning c.args.book.now in
    let t = words c.args.struck.now in
    words_all m (g.B.RuleBook.lawful c.args.book.now) c.from_fn.result t c.from_fn.ensures.items.long
    (λ k l. made_at _ _ (λ i w. (a : ℕ) → bit w a ≡ unstruck m t i a) (λ i w q k. search rules) c.from_fn.result 32 c.from_fn.ensures.items k 0 l)
