use Rattle.std.proofs.Common.{ℕ, sym, ap, ◌∙◌}
use Rattle.bits.specs.Bits.{bit}
use Rattle.bits.proofs.Words.{bit_pow}
use Rattle.std.proofs.lemmas.Nat.{one_shl}
use Rattle.sessions.proofs.Masks.{one_bit}
use Rattle.sessions.proofs.start.one_option.Goals as goal

pub returns-then-a-lt32 : goal.returns-then-a-lt32
returns-then-a-lt32 c b =
    ap (λ (z : ℕ). bit z b) (one_shl c.args.a 32 c.if-a-lt32.true) ∙ bit_pow c.args.a b ∙ sym (one_bit c.args.a b c.if-a-lt32.true)
