use Rattle.std.proofs.Common.{ℕ, ◌^◌, ◌<◌, ◌&&◌, ◌∙◌, arith}
use lib.Bits.{bit_and, and_le_l}
use Rattle.bits.specs.Bits.{bit}
use Rattle.bits.proofs.Counts.{count_cong}
use Rattle.bits.proofs.Ones.{ones_count}
use Rattle.bits.proofs.Words.{bit_of_and}
use Rattle.propagation.proofs.Rows.{and_swap}
use Rattle.propagation.proofs.counts.shared.Goals as goal

pub returns : goal.returns
returns c =
    let x : ℕ = c.args.x in
    let y : ℕ = c.args.y in
    let low : bit_and x y < 2 ^ 32 = omega (arith, and_le_l x y) in
    ones_count 32 (bit_and x y) low
    ∙ count_cong 32 (bit (bit_and x y)) (λ b. bit y b && bit x b) (λ b bl. bit_of_and x y b ∙ and_swap (bit x b) (bit y b))
