use Rattle.worked.proofs.Table.{nine}
use Rattle.worked.proofs.nine_stand.Goals as goal

pub returns : goal.returns
returns c = nine
