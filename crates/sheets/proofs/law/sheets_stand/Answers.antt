use Rattle.sheets.proofs.Accepted.{only_texts}
use Rattle.sheets.proofs.Laws.{checked, faults, only_one, reads_back, written_back}
use Rattle.sheets.proofs.law.sheets_stand.Goals as goal

pub returns : goal.returns
returns c = record { texts = only_texts; back = reads_back; one = only_one; checked = checked; written = written_back; faults = faults }
