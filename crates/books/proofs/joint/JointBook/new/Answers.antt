use Rattle.std.proofs.Common.{rules}
use Rattle.meaning.proofs.JointLaws.{joined_joint}
use Rattle.books.proofs.joint.JointBook.new.Goals as goal

pub returns-clause-meaning : goal.returns-clause-meaning
returns-clause-meaning g c =
    let h = joined_joint _ _ (g.P.RuleBook.lawful c.args.first) (g.Q.RuleBook.lawful c.args.second) in search rules
