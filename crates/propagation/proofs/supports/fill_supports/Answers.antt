use Rattle.std.proofs.Common.{ℕ, ◌+◌, ◌<◌, length, sym, ap, ◌∙◌, subst, arith, length-set}
use Rattle.propagation.specs.Supports.{SupportsBelow}
use Rattle.propagation.proofs.Rows.{supports_set, supports_skip}
use Rattle.propagation.proofs.supports.fill_supports.Goals as goal
use Rattle.propagation.proofs.supports.fill_supports.Goals.{then-linked, else-linked}

pub loop-n-preserved : goal.loop-n-preserved
loop-n-preserved g c =
    let m = g.B.RuleBook.meaning c.args.book.now in
    let law = g.B.RuleBook.lawful c.args.book.now in
    let n : ℕ = c.loop-n.n in
    let lt : n < length c.loop-n.rows = omega (arith, c.items-n-end.ensures, c.loop-n-test.true, law.items_most, c.loop-n.invariant.1) in
    elim c.if-linked.branch [
      | then-linked w ↦ (
        subst (SupportsBelow m (n + 1)) (sym w.rows-is) (supports_set m law n c.loop-n.rows c.loop-n.invariant.0 w.support_word.result lt w.support_word.ensures),
        ap length w.rows-is ∙ (simp length-set c.loop-n.invariant.1),
      )
      | else-linked w ↦ (subst (SupportsBelow m (n + 1)) (sym w.rows-is) (supports_skip m law n c.loop-n.rows c.loop-n.invariant.0 (sym c.linked.ensures ∙ w.if-linked.false)), ap length w.rows-is ∙ c.loop-n.invariant.1)
    ]
