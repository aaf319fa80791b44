use Rattle.std.proofs.Common.{ℕ, ◌-◌, ap, ◌∙◌, arith}
use Rattle.bits.specs.Bits.{bit}
use Rattle.std.proofs.lemmas.Nat.{one_shl}
use Rattle.sessions.proofs.Masks.{bit_low}
use Rattle.sessions.proofs.start.low_bits.Goals as goal

pub returns : goal.returns
returns c a = ap (λ (z : ℕ). bit (z - 1) a) (one_shl c.args.n 64 (omega arith)) ∙ bit_low c.args.n a
