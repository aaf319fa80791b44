use Rattle.std.proofs.Common.{rules}
use Rattle.meaning.proofs.Starts.{pair_below}
use Rattle.books.proofs.clearance_check.SizedClearance.pair_gap.Goals as goal

pub bounds-self-pair_number : goal.bounds-self-pair_number
bounds-self-pair_number c =
    let h = pair_below c.args.self.now.parts.items c.args.j c.args.i c.requires.within c.requires.lower in search rules
