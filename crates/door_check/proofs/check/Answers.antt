-- `door_check::check` meets its contract: the test of the record in the opened field.
use mathlib.Core.Path.{refl}
use Rattle.basis_field.proofs.Known.{known_of}
use Rattle.door_check.proofs.Answer.{checks_yes, checks_no}
use Rattle.door_check.proofs.check.Goals as goal

pub accepts-requires : goal.accepts-requires
accepts-requires c = known_of c.in_ok-c.ensures refl

pub returns-then-accepts : goal.returns-then-accepts
returns-then-accepts c = checks_yes c.in_ok-c.ensures refl c.accepts.ensures c.if-accepts.true

pub returns-else-accepts : goal.returns-else-accepts
returns-else-accepts c = checks_no c.in_ok-c.ensures refl c.accepts.ensures c.if-accepts.false
