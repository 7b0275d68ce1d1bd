use Rattle.std.proofs.Common.{◌-◌, arith}
use Rattle.vic_keybits.proofs.Bits.{apart_first}
use Rattle.vic_keybits.proofs.+bit_apart.Goals as goal

pub returns-then-x-below-clause-first : goal.returns-then-x-below-clause-first
returns-then-x-below-clause-first t c =
    λ r s. apart_first c.args.left (c.args.left - 1) c.args.x c.args.y r s (omega (arith, c.requires.bits.0)) (omega (arith, c.requires.bits.1)) c.requires.same c.if-x-below.true
