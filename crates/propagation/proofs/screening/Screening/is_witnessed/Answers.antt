use Rattle.std.proofs.Common.{ℕ, Bool, rules, ap, ◌∙◌}
use Rattle.bits.specs.Below.{every}
use Rattle.bits.proofs.Ranges.{all_below}
use Rattle.levels.specs.Sets.{words}
use Rattle.levels.specs.Tests.{witnessed_test}
use Rattle.propagation.proofs.screening.Screening.is_witnessed.Goals as goal

pub returns : goal.returns
returns g c =
    let p : ℕ → Bool = witnessed_test (g.B.RuleBook.meaning c.args.self.now.book.now) (words c.args.set.now) c.args.i c.args.a c.args.j c.args.b in
    all_below c.items.result p _ _ _ c.all.ensures.ran (λ x b q k. search rules) ∙ ap (λ (n : ℕ). every n p) c.items.ensures
