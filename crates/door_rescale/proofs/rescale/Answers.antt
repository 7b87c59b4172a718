-- `door_rescale::rescale` meets its contract.
use mathlib.Core.Path.{refl}
use Rattle.std.proofs.lemmas.Result.{err_from_is_err_and}
use Rattle.base_answers.proofs.Faults.{some_number}
use Rattle.basis_field.proofs.Known.{known_of}
use Rattle.door_rescale.proofs.Answering.{rescales_refused, rescales_bad, turn_in, rescales_turned}
use Rattle.door_rescale.proofs.rescale.Goals as goal

pub returns-in_err-f : goal.returns-in_err-f
returns-in_err-f c = let p = err_from_is_err_and c.from_residual.result c.from_residual.ensures.1 in
    rw (p.1, p.2) (rescales_refused c.in_err-f.ensures (some_number _))

pub fit-requires : goal.fit-requires
fit-requires c = known_of c.in_ok-f.ensures refl

pub returns-in-None : goal.returns-in-None
returns-in-None c = rescales_bad c.in_ok-f.ensures refl c.in-None.ensures.rule

pub turn-requires : goal.turn-requires
turn-requires c = rw c.in-Some.ensures.target (turn_in c.in_ok-f.ensures refl c.in-Some.ensures.rule)

pub returns-in-Some : goal.returns-in-Some
returns-in-Some c = rescales_turned c.in_ok-f.ensures refl c.in-Some.ensures.rule (rw c.in-Some.ensures.target at c.turn.ensures)
