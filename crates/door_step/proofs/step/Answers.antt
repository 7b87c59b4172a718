-- `door_step::step` meets its contract, case by case.
use mathlib.Core.Path.{refl}
use Rattle.basis_field.proofs.Known.{known_of}
use Rattle.door_step.proofs.Answers.{answers_no_record, next_of, answers_next}
use Rattle.door_step.proofs.step.Goals as goal

pub accepts-requires : goal.accepts-requires
accepts-requires c = known_of c.in_ok-c.ensures refl

pub step_in_field-requires : goal.step_in_field-requires
step_in_field-requires c = next_of c.in_ok-c.ensures refl c.accepts.ensures c.if-accepts.true

pub returns-then-accepts : goal.returns-then-accepts
returns-then-accepts c = answers_next c.in_ok-c.ensures refl c.accepts.ensures c.if-accepts.true _ c.step_in_field.ensures

pub returns-else-accepts : goal.returns-else-accepts
returns-else-accepts c = answers_no_record c.in_ok-c.ensures refl c.accepts.ensures c.if-accepts.false refl
