-- `poly_long::to_stored` meets its contract: the row is filled with the other's numbers.
use native.Mathlib.Omega.{arith}
use Rattle.poly_long.proofs.Loops.{filled_same}
use Rattle.poly_long.proofs.to_stored.Goals as goal

pub returns : goal.returns
returns c = filled_same 32 _ _ _ c.loop-i.invariant (omega arith) c.requires.size
