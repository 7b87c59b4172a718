-- `from_order` meets its contract, case by case.
use mathlib.Core.Path.{◌≡◌, refl, ap}
use native.Mathlib.Omega.{arith}
use Rattle.base_answers.proofs.Limits.{over_yes, over_no}
use Rattle.field_open.proofs.Door.{door_goes}
use Rattle.field_series.proofs.Answer.{expands_number}
use Rattle.basis_field.proofs.Known.{known_of}
use Rattle.walk_chain.specs.Told.{end_number}
use Rattle.door_period.specs.Order.{budget}
use Rattle.door_period.proofs.Order.{walked_at, from_spent, from_closed}
use Rattle.door_period.proofs.from_order.Goals as goal

pub returns-then-over_budget : goal.returns-then-over_budget
returns-then-over_budget c = door_goes (expands_number c.in_ok-c.ensures) refl (budget (over_yes c.over_budget.ensures c.if-over_budget.true) refl)

pub order_basis-b-requires : goal.order_basis-b-requires
order_basis-b-requires c = known_of c.in_ok-c.ensures refl

pub walk_in_field-o-requires : goal.walk_in_field-o-requires
walk_in_field-o-requires c = let within = over_no c.over_budget.ensures c.if-over_budget.false in
    walked_at _ _ _ _ _ c.in_ok-c.ensures refl _ c.order_basis-b.ensures within

pub returns-in-Closed : goal.returns-in-Closed
returns-in-Closed c = let within = over_no c.over_budget.ensures c.if-over_budget.false in
    from_closed _ _ _ _ _ c.in_ok-c.ensures refl _ c.order_basis-b.ensures within _ c.walk_in_field-o.ensures (ap end_number c.in-Closed.is)

pub returns-in-Spent : goal.returns-in-Spent
returns-in-Spent c = let within = over_no c.over_budget.ensures c.if-over_budget.false in
    let ten : end_number c.walk_in_field-o.result.end ≡ 10 = ap end_number c.in-Spent.is in
    from_spent _ _ _ _ _ c.in_ok-c.ensures refl _ c.order_basis-b.ensures within _ c.walk_in_field-o.ensures (λ z. omega arith) _ refl
