use Rattle.propagation.proofs.Counting.{counts_fixed}
use Rattle.propagation.proofs.propagate.counts_are_fixed.Goals as goal

pub returns : goal.returns
returns c = counts_fixed
