-- `poly_products::times` meets its contract.
use Rattle.poly_products.proofs.Timed.{timed}
use Rattle.poly_products.proofs.times.Goals as goal

pub returns : goal.returns
returns c = timed _ _ _ _ _ c.requires c.mix.ensures
