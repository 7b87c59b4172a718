-- `basis_store::filled` meets its contract: each part finds the record 0 from its row on.
use Rattle.basis_store.proofs.Place.{fill_m, fill_n, fill_u}
use Rattle.basis_store.proofs.filled.Goals as goal

pub store_element-requires : goal.store_element-requires
store_element-requires c = fill_m c.requires

pub store_element-requires-2 : goal.store_element-requires-2
store_element-requires-2 c = fill_n c.requires c.store_element.ensures

pub stored-requires : goal.stored-requires
stored-requires c = fill_u c.requires c.store_element.ensures c.store_element-2.ensures
