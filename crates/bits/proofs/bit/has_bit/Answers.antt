use borrow.Author.Rules.{rules}
use Rattle.bits.proofs.Words.{bit_high}
use Rattle.bits.proofs.bit.has_bit.Goals as goal

pub returns-else-k-lt32 : goal.returns-else-k-lt32
returns-else-k-lt32 c = let h = bit_high c.args.word 32 c.args.k (search rules) c.if-k-lt32.false in search rules
