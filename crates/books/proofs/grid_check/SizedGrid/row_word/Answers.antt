use Rattle.std.proofs.Common.{rules}
use Rattle.meaning.proofs.Starts.{pair_within}
use Rattle.books.proofs.grid_check.SizedGrid.row_word.Goals as goal

pub bounds-self-pair_number : goal.bounds-self-pair_number
bounds-self-pair_number c =
    let h = pair_within c.args.self.now.parts.items c.args.j c.args.i c.requires.within c.requires.lower in search rules
