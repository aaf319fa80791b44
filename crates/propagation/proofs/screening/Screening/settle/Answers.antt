use Rattle.std.proofs.Common.{◌∙◌}
use Rattle.propagation.proofs.Revising.{narrowed_more}
use Rattle.propagation.proofs.screening.Screening.settle.Goals as goal

pub loop-x-preserved : goal.loop-x-preserved
loop-x-preserved g c =
    let m = g.B.RuleBook.meaning c.args.self.now.book.now in (
      c.step.ensures.holds,
      c.step.ensures.empty,
      narrowed_more c.args.self.now.c m c.args.domains.now c.loop-x.domains c.step.new.domains c.loop-x.invariant.2 c.step.ensures.narrowed,
      c.step.ensures.options ∙ c.loop-x.invariant.3,
      c.step.ensures.items ∙ (c.in-Some.ensures.capacity ∙ c.loop-x.invariant.4),
      λ k h. c.step.ensures.past k h ∙ c.loop-x.invariant.5 k h,
    )
