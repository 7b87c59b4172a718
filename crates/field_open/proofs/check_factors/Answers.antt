-- `field_open::check_factors` meets its contract: refusals 7 and 8.
use Rattle.field_open.proofs.Factors.{by_number}
use Rattle.field_open.proofs.check_factors.Goals as goal

pub returns : goal.returns
returns c = by_number c.requires c.from_list-x.ensures c.from_list-y.ensures
    c.both_free-free.result c.coprime-apart.result _ c.first_factor.ensures c.both_free-free.ensures c.coprime-apart.ensures
