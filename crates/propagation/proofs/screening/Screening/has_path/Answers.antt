use Rattle.std.proofs.Common.{ℕ, Bool, rules, ap, ◌∙◌}
use Rattle.bits.specs.Below.{some}
use Rattle.bits.proofs.Ranges.{any_below}
use Rattle.levels.specs.Sets.{words}
use Rattle.levels.specs.Tests.{path_test}
use Rattle.propagation.proofs.screening.Screening.has_path.Goals as goal

pub returns : goal.returns
returns g c =
    let p : ℕ → Bool = path_test (g.B.RuleBook.meaning c.args.self.now.book.now) (words c.args.set.now) c.args.i c.args.a c.args.j in
    any_below c.options.result p _ _ _ c.any.ensures.ran (λ x b q k. search rules) ∙ ap (λ (n : ℕ). some n p) c.options.ensures
