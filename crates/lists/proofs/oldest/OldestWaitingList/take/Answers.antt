use Rattle.std.proofs.Common.{arith, rules}
use Rattle.bags.proofs.Views.{ringed_pop}
use Rattle.lists.proofs.oldest.OldestWaitingList.take.Goals as goal

pub returns : goal.returns
returns g c =
    let s = c.args.self.now in
    let pop = ringed_pop s.head s.count s.cells.now c.index-self-self.result (omega arith) (omega arith) s.fits in
    search rules
