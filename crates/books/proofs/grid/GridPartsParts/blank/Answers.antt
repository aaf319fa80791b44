use Rattle.meaning.proofs.GridContents.{blank_right}
use Rattle.books.proofs.grid.GridPartsParts.blank.Goals as goal

pub returns-clause-contents : goal.returns-clause-contents
returns-clause-contents c = blank_right
