-- `poly_cross::scale_in` meets its contract: a row turned in place up to n, then `scaled`.
use native.Mathlib.Omega.{arith}
use Rattle.poly_cross.proofs.Cross.{scaled}
use Rattle.poly_cross.proofs.scale_in.Goals as goal

pub returns : goal.returns
returns c = scaled c.requires (omega arith) c.loop-i.invariant
