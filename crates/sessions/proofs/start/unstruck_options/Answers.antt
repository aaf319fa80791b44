use Rattle.std.proofs.Common.{Bool, not, ◌&&◌, get_or, ap, ◌∙◌}
use Rattle.bits.specs.Bits.{bit}
use Rattle.sessions.proofs.Masks.{bit_minus}
use Rattle.sessions.proofs.start.unstruck_options.Goals as goal

pub returns : goal.returns
returns g c a =
    let w = get_or c.args.struck.now c.args.i 0 in
    bit_minus c.all_options.result w a c.all_options.type_inv (c.fits-struck c.args.i)
    ∙ ap (λ (z : Bool). z && not (bit w a)) (c.all_options.ensures a)
