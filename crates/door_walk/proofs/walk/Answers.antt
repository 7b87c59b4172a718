-- `door_walk::walk` meets its contract, case by case.
use mathlib.Core.Path.{refl}
use Rattle.std.proofs.lemmas.Result.{err_from_is_err_and}
use Rattle.base_answers.proofs.Limits.{over_yes, over_no}
use Rattle.field_open.proofs.Door.{door_goes}
use Rattle.field_series.proofs.Answer.{expands_number}
use Rattle.basis_field.proofs.Known.{known_of}
use Rattle.walk_chain.specs.Walk.{budget}
use Rattle.door_walk.proofs.FromRecord.{early, walks_no_record, walked_of, walks_goes}
use Rattle.door_walk.proofs.walk.Goals as goal

pub returns-in_err-c-clause-ten : goal.returns-in_err-c-clause-ten
returns-in_err-c-clause-ten c = let p = err_from_is_err_and c.from_residual.result c.from_residual.ensures.1 in
    rw (p.1, p.2) (early _ c.in_err-c.ensures)

pub returns-then-over_budget-clause-walks : goal.returns-then-over_budget-clause-walks
returns-then-over_budget-clause-walks c = door_goes (expands_number c.in_ok-c.ensures) refl (budget (over_yes c.over_budget.ensures c.if-over_budget.true) refl)

pub accepts-requires : goal.accepts-requires
accepts-requires c = known_of c.in_ok-c.ensures refl

pub walk_in_field-requires : goal.walk_in_field-requires
walk_in_field-requires c = let within = over_no c.over_budget.ensures c.if-over_budget.false in
    walked_of c.in_ok-c.ensures refl within c.accepts.ensures c.if-accepts.true

pub returns-then-accepts-clause-walks : goal.returns-then-accepts-clause-walks
returns-then-accepts-clause-walks c = let within = over_no c.over_budget.ensures c.if-over_budget.false in
    walks_goes c.in_ok-c.ensures refl within c.accepts.ensures c.if-accepts.true _ c.walk_in_field.ensures

pub returns-else-accepts-clause-walks : goal.returns-else-accepts-clause-walks
returns-else-accepts-clause-walks c = let within = over_no c.over_budget.ensures c.if-over_budget.false in
    walks_no_record c.in_ok-c.ensures refl within c.accepts.ensures c.if-accepts.false refl
