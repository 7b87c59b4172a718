-- `poly_cross::cross_in` meets its contract: a row turned in place up to n, then `crossed`.
use native.Mathlib.Omega.{arith}
use Rattle.poly_cross.proofs.Cross.{cross_low, crossed}
use Rattle.poly_cross.proofs.cross_in.Goals as goal

pub overflow_mul-d : goal.overflow_mul-d
overflow_mul-d c = omega (arith, cross_low c.requires c.loop-i.i _ _ (c.loop-i.invariant.rest _ (omega arith)) c.shifted-z.ensures)

pub overflow_add-s : goal.overflow_add-s
overflow_add-s c = omega (arith, cross_low c.requires c.loop-i.i _ _ (c.loop-i.invariant.rest _ (omega arith)) c.shifted-z.ensures)

pub returns : goal.returns
returns c = crossed c.requires (omega arith) c.loop-i.invariant
