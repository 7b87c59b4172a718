-- `poly_lent::det_in` meets its contract: the lemmas of Mixing.
use Rattle.poly_lent.proofs.Mixing.{det_both, det_made}
use Rattle.poly_lent.proofs.det_in.Goals as goal

pub both_in-requires : goal.both_in-requires
both_in-requires c = det_both c.requires

pub returns : goal.returns
returns c = det_made c.requires c.both_in.ensures
