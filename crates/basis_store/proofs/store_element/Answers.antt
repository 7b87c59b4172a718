-- `basis_store::store_element` meets its contract: the lemmas of Place.
use Rattle.basis_store.proofs.Place.{place_both, placed}
use Rattle.basis_store.proofs.store_element.Goals as goal

pub both_in-n-requires : goal.both_in-n-requires
both_in-n-requires c = place_both c.requires c.scale_in.ensures c.scale_in-2.ensures c.scale_in-3.ensures c.size_from-nb.ensures c.size_from-nc.ensures

pub returns : goal.returns
returns c = placed c.requires c.scale_in.ensures c.scale_in-2.ensures c.scale_in-3.ensures c.both_in-n.ensures c.row_zero.ensures
    c.stored.ensures c.stored-2.ensures c.stored-3.ensures
