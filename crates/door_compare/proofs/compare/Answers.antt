-- `door_compare::compare` meets its contract: the lists that the four stand for are compared.
use mathlib.Core.Path.{refl}
use Rattle.std.proofs.lemmas.Result.{err_from_is_err_and}
use Rattle.base_answers.specs.Decides.{Decides}
use Rattle.base_answers.proofs.Faults.{some_number}
use Rattle.base_lists.proofs.Paddings.{unpadded_length}
use Rattle.pair_laws.specs.OneField.{OneField}
use Rattle.door_compare.proofs.Doors.{doors_refused, doors_goes, both_of}
use Rattle.door_compare.proofs.Fronts.{front_both, four}
use Rattle.door_compare.proofs.compare.Goals as goal

pub returns-in_err-refusal : goal.returns-in_err-refusal
returns-in_err-refusal c = let p = err_from_is_err_and c.from_residual.result c.from_residual.ensures.1 in
    rw (p.1, p.2) (doors_refused c.in_err-refusal.ensures (some_number _) refl)

pub slice_bounds-one_field-end : goal.slice_bounds-one_field-end
slice_bounds-one_field-end c = unpadded_length c.unpadded-i.ensures

pub slice_bounds-one_field-end-2 : goal.slice_bounds-one_field-end-2
slice_bounds-one_field-end-2 c = unpadded_length c.unpadded-j.ensures

pub slice_bounds-one_field-end-3 : goal.slice_bounds-one_field-end-3
slice_bounds-one_field-end-3 c = unpadded_length c.unpadded-k.ensures

pub slice_bounds-one_field-end-4 : goal.slice_bounds-one_field-end-4
slice_bounds-one_field-end-4 c = unpadded_length c.unpadded-l.ensures

pub one_field-requires : goal.one_field-requires
one_field-requires c = front_both c.unpadded-i.ensures c.unpadded-j.ensures c.unpadded-k.ensures c.unpadded-l.ensures
    (both_of refl c.in_ok-refusal.ensures)

pub returns : goal.returns
returns c = let a = c.args in
    doors_goes (both_of refl c.in_ok-refusal.ensures) (
      refl,
      four c.unpadded-i.ensures c.unpadded-j.ensures c.unpadded-k.ensures c.unpadded-l.ensures
          (λ g h k l. Decides c.one_field.result (OneField a.p g h k l)) c.one_field.ensures,
    )
