use Rattle.std.proofs.Common.{rules}
use Rattle.meaning.proofs.Starts.{start_most, starts_right}
use Rattle.books.proofs.pair.start_of.Goals as goal

pub returns : goal.returns
returns c =
    let h = starts_right c.args.j c.requires in
    let k = start_most c.args.j c.requires in search rules
