-- `door_compare::refusal` meets its contract.
use mathlib.Core.Path.{refl}
use Rattle.std.proofs.lemmas.Result.{err_from_is_err_and}
use Rattle.base_answers.proofs.Faults.{some_number}
use Rattle.field_open.proofs.Door.{door_refused, door_goes}
use Rattle.door_compare.proofs.Doors.{second_of}
use Rattle.door_compare.proofs.refusal.Goals as goal

pub returns-in_err-refusal : goal.returns-in_err-refusal
returns-in_err-refusal c = let p = err_from_is_err_and c.from_residual.result c.from_residual.ensures.1 in
    rw (p.1, p.2) (door_refused c.in_err-refusal.ensures (some_number _) refl)

pub returns : goal.returns
returns c = door_goes c.in_ok-refusal.ensures refl (second_of c.refusal-2.ensures)
