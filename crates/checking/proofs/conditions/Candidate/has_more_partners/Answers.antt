use Rattle.std.proofs.Common.{rules}
use Rattle.checking.proofs.Folds.{folds_below}
use Rattle.checking.proofs.conditions.Candidate.has_more_partners.Goals as goal

pub returns : goal.returns
returns g c = rw (← c.options.ensures) (folds_below _ _ _ (λ l x v q k. search rules) _ _ _ _ _ c.try_fold.ensures.ran c.is_none.ensures)
