-- `basis_field::order_basis` meets its contract: the reduction of r and w.
use native.Mathlib.Omega.{arith}
use Rattle.basis_field.proofs.Keeps.{modulus, room}
use Rattle.basis_field.proofs.First.{order_by, based_by, first_in, is_first}
use Rattle.basis_field.proofs.order_basis.Goals as goal

pub prepare-requires : goal.prepare-requires
prepare-requires c = modulus c.requires.kept

pub order-requires : goal.order-requires
order-requires c = order_by c.prepare.ensures (first_in c.requires.kept)

pub returns : goal.returns
returns c = λ G H k. is_first k (based_by c.prepare.ensures c.order.ensures)
