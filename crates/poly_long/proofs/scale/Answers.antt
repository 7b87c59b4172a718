-- `poly_long::scale` meets its contract. The loop's invariant: the numbers passed are changed, the others are as they were.
use native.Mathlib.Omega.{arith}
use Rattle.poly_long.proofs.Low.{scaled}
use Rattle.poly_long.proofs.scale.Goals as goal

pub returns : goal.returns
returns c = let l = c.loop-v in scaled c.args.p c.args.s c.args.d.now l.d l.v-index c.requires l.invariant.filled (omega (arith, l.invariant.filled.size))
