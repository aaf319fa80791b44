use Rattle.runs.proofs.Same.{equal_law}
use Rattle.runs.proofs.Settle.{session_law}
use Rattle.runs.proofs.WholeRuns.{run_law}
use Rattle.runs.proofs.law.law_stands.Goals as goal

pub returns : goal.returns
returns c = record { settles = session_law; runs = run_law; alike = equal_law }
