use Rattle.std.proofs.Common.{◌≡◌, ℕ, ◌*◌, ◌%◌, ◌^◌, ◌<◌, Bool, true, false, ◌&&◌, ◌||◌, eqb, ap, ◌∙◌, zero-mul}
use lib.Bits.{bit_or}
use mir.Val.{bool_byte}
use Rattle.std.proofs.lemmas.Nat.{one_shl}
use Rattle.bits.specs.Bits.{bit}
use Rattle.bits.proofs.Words.{bit_of_or, bit_pow, bit_none}
use Rattle.propagation.proofs.words.put_bit.Goals as goal

put_at : (word k x : ℕ) → k < 32 → (on : Bool) → bit (bit_or word ((bool_byte on * 2 ^ k) % 2 ^ 32)) x ≡ (bit word x || (on && eqb k x))
put_at word k x kl true =
    ap (λ (z : ℕ). bit (bit_or word z) x) (one_shl k 32 kl) ∙ (bit_of_or word (2 ^ k) x ∙ ap (λ (z : Bool). bit word x || z) (bit_pow k x))
put_at word k x kl false =
    ap (λ (z : ℕ). bit (bit_or word (z % 2 ^ 32)) x) (zero-mul (2 ^ k)) ∙ (bit_of_or word 0 x ∙ ap (λ (z : Bool). bit word x || z) (bit_none x))

pub returns : goal.returns
returns c x = rw c.from.ensures (put_at c.args.word c.args.k x c.requires c.args.on)
