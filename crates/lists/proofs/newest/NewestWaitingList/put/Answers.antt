use Rattle.std.proofs.Common.{arith, rules}
use Rattle.bags.proofs.BagLaws.{bag_last}
use Rattle.bags.proofs.Views.{stacked_push}
use Rattle.lists.specs.Order.{stack}
use Rattle.lists.proofs.newest.NewestWaitingList.put.Goals as goal

pub returns-clause-waiting : goal.returns-clause-waiting
returns-clause-waiting g c =
    let s = c.args.self.now in
    let push = stacked_push s.count s.cells.now c.args.x (omega arith) in
    let last = bag_last (stack s) c.args.x in
    search rules
