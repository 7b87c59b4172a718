-- `door_order::order` meets its contract: the record of the order in the opened field.
use mathlib.Core.Path.{refl}
use Rattle.basis_field.proofs.Known.{known_of}
use Rattle.door_order.proofs.Answer.{orders_made}
use Rattle.door_order.proofs.order.Goals as goal

pub order_basis-requires : goal.order_basis-requires
order_basis-requires c = known_of c.in_ok-c.ensures refl

pub returns : goal.returns
returns c = orders_made c.in_ok-c.ensures refl c.order_basis.ensures
