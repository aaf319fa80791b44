use Rattle.std.proofs.Common.{◌≡◌, ℕ, ◌*◌, ◌%◌, ◌^◌, Bool, not, ◌&&◌, ap, ◌∙◌}
use lib.Bits.{bit_xor, bit_and}
use Rattle.std.proofs.lemmas.Nat.{one_shl}
use Rattle.bits.specs.Bits.{bit}
use Rattle.bits.proofs.Words.{bit_clear, bit_pow}
use Rattle.propagation.proofs.words.without_bit.Goals as goal

pub returns : goal.returns
returns c x =
    let e : (1 * 2 ^ c.args.k) % 2 ^ 32 ≡ 2 ^ c.args.k = one_shl c.args.k 32 c.requires in
    ap (λ (z : ℕ). bit (bit_xor c.args.word (bit_and c.args.word z)) x) e
    ∙ (bit_clear c.args.word (2 ^ c.args.k) x ∙ ap (λ (z : Bool). bit c.args.word x && not z) (bit_pow c.args.k x))
