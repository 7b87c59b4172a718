-- `door_transfer::transfer` meets its contract: the rows are carried over between the pairs that the four lists stand for.
use mathlib.Core.Path.{refl}
use Rattle.std.proofs.lemmas.Result.{err_from_is_err_and}
use Rattle.base_answers.proofs.Faults.{some_number}
use Rattle.base_lists.proofs.Paddings.{unpadded_length}
use Rattle.door_compare.proofs.Doors.{doors_refused, both_of}
use Rattle.door_compare.proofs.Fronts.{front_both}
use Rattle.door_transfer.proofs.Answering.{unpadded_done}
use Rattle.door_transfer.proofs.transfer.Goals as goal

pub returns-in_err-refusal : goal.returns-in_err-refusal
returns-in_err-refusal c = let p = err_from_is_err_and c.from_residual.result c.from_residual.ensures.1 in
    rw (p.1, p.2) (doors_refused c.in_err-refusal.ensures (some_number _) (record { number = refl; kept = refl }))

pub slice_bounds-carry_between-end : goal.slice_bounds-carry_between-end
slice_bounds-carry_between-end c = unpadded_length c.unpadded-i.ensures

pub slice_bounds-carry_between-end-2 : goal.slice_bounds-carry_between-end-2
slice_bounds-carry_between-end-2 c = unpadded_length c.unpadded-j.ensures

pub slice_bounds-carry_between-end-3 : goal.slice_bounds-carry_between-end-3
slice_bounds-carry_between-end-3 c = unpadded_length c.unpadded-k.ensures

pub slice_bounds-carry_between-end-4 : goal.slice_bounds-carry_between-end-4
slice_bounds-carry_between-end-4 c = unpadded_length c.unpadded-l.ensures

pub carry_between-requires : goal.carry_between-requires
carry_between-requires c = front_both c.unpadded-i.ensures c.unpadded-j.ensures c.unpadded-k.ensures c.unpadded-l.ensures
    (both_of refl c.in_ok-refusal.ensures)

pub returns : goal.returns
returns c = unpadded_done c.unpadded-i.ensures c.unpadded-j.ensures c.unpadded-k.ensures c.unpadded-l.ensures
    (both_of refl c.in_ok-refusal.ensures) c.carry_between.ensures
