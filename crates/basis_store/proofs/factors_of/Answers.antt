-- `basis_store::factors_of` meets its contract: `scaling`.
use Rattle.basis_store.proofs.Scales.{scales_in, scaling}
use Rattle.basis_store.proofs.factors_of.Goals as goal

pub inverse-i-requires : goal.inverse-i-requires
inverse-i-requires c = scales_in c.requires

pub returns : goal.returns
returns c = scaling c.requires c.inverse-i.result c.inverse-i.ensures
