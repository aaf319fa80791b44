use Rattle.std.proofs.Common.{rules}
use Rattle.checking.proofs.Failures.{none_found}
use Rattle.checking.proofs.conditions.Candidate.meets.Goals as goal

pub returns : goal.returns
returns g c = search (rules, none_found)
