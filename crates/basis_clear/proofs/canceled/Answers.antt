-- `basis_clear::canceled` meets its contract: the lemmas of Cancel.
use Rattle.basis_clear.proofs.Cancel.{cancel_b, cancel_c, cancel_top}
use Rattle.basis_clear.proofs.canceled.Goals as goal

pub cross_in-requires : goal.cross_in-requires
cross_in-requires c = cancel_b c.requires

pub cross_in-requires-2 : goal.cross_in-requires-2
cross_in-requires-2 c = cancel_c c.requires

pub top_of-requires : goal.top_of-requires
top_of-requires c = cancel_top c.requires c.cross_in.ensures c.cross_in-2.ensures
