use Rattle.meaning.proofs.ClearanceLaws.{blank_right}
use Rattle.books.proofs.clearance.ClearancePartsParts.blank.Goals as goal

pub returns-clause-contents : goal.returns-clause-contents
returns-clause-contents c = blank_right
