-- `poly_long::copy` meets its contract: the list is filled with the other's numbers.
use native.Mathlib.Omega.{arith}
use Rattle.poly_long.proofs.Loops.{filled_same}
use Rattle.poly_long.proofs.copy.Goals as goal

pub returns : goal.returns
returns c = filled_same _ _ _ _ c.loop-i.invariant (omega (arith, c.loop-i.invariant.size)) c.requires
