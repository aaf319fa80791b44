use Rattle.std.proofs.Common.{arith, rules}
use Rattle.bags.proofs.BagLaws.{bag_last}
use Rattle.bags.proofs.Views.{ringed_push, length_ringed}
use Rattle.lists.specs.Order.{queue}
use Rattle.lists.proofs.oldest.OldestWaitingList.put.Goals as goal

pub returns : goal.returns
returns g c =
    let s = c.args.self.now in
    let waiting = length_ringed s.head s.count s.cells.now s.fits in
    let push = ringed_push s.head s.count s.cells.now c.args.x (omega arith) (omega arith) in
    let last = bag_last (queue s) c.args.x in
    search rules
