-- `basis_scale::order` meets its contract: `order_by`.
use Rattle.basis_scale.proofs.First.{order_by}
use Rattle.basis_scale.proofs.order.Goals as goal

pub reduced_basis-requires : goal.reduced_basis-requires
reduced_basis-requires c = order_by c.requires
