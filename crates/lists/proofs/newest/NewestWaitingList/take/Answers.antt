use Rattle.std.proofs.Common.{◌-◌, arith, rules}
use Rattle.bags.specs.Views.{stacked}
use Rattle.bags.proofs.BagLaws.{bag_last}
use Rattle.bags.proofs.Views.{stacked_pop}
use Rattle.lists.proofs.newest.NewestWaitingList.take.Goals as goal

pub returns-clause-waiting : goal.returns-clause-waiting
returns-clause-waiting g c =
    let s = c.args.self.now in
    let pop = stacked_pop s.count s.cells.now c.index-self-self.result (omega arith) s.fits in
    let last = bag_last (stacked (s.count - 1) s.cells.now) c.index-self-self.result in
    search rules
