-- `unit_scaled` meets its contract, case by case: proofs/Answering.antt.
use mathlib.Core.Path.{◌≡◌, refl, ◌∙◌, ap}
use native.Mathlib.Omega.{arith}
use lib.ListN.{length, length-replicate}
use Rattle.std.proofs.lemmas.Result.{err_from_is_err_and}
use Rattle.base_answers.proofs.Faults.{some_number}
use Rattle.basis_field.proofs.Known.{known_of}
use Rattle.walk_chain.specs.Told.{end_number}
use Rattle.door_unit.proofs.Answering.{makes_refused, makes_bad, walked_at, makes_spent, makes_narrow, make_in, makes_made}
use Rattle.door_unit.proofs.unit_scaled.Goals as goal

pub returns-in_err-f : goal.returns-in_err-f
returns-in_err-f c = let p = err_from_is_err_and c.from_residual.result c.from_residual.ensures.1 in
    rw (p.1, p.2) (makes_refused c.in_err-f.ensures (some_number _) refl)

pub returns-in_default : goal.returns-in_default
returns-in_default c = makes_bad c.in_ok-f.ensures refl c.in_default.ensures.rule refl

pub order_basis-b-requires : goal.order_basis-b-requires
order_basis-b-requires c = known_of c.in_ok-f.ensures refl

pub walk_in_field-o-requires : goal.walk_in_field-o-requires
walk_in_field-o-requires c = walked_at (record { opens = c.in_ok-f.ensures; zero = refl; rule = c.in-Some.ensures.rule }) c.order_basis-b.ensures

pub returns-in-Spent : goal.returns-in-Spent
returns-in-Spent c = let ten : end_number c.walk_in_field-o.result.end ≡ 10 = ap end_number c.in-Spent.is in
    makes_spent (record { opens = c.in_ok-f.ensures; zero = refl; rule = c.in-Some.ensures.rule }) c.order_basis-b.ensures _ c.walk_in_field-o.ensures (λ z. omega arith) refl

pub returns-then-c-o : goal.returns-then-c-o
returns-then-c-o c = makes_narrow (record { opens = c.in_ok-f.ensures; zero = refl; rule = c.in-Some.ensures.rule }) c.order_basis-b.ensures _ c.walk_in_field-o.ensures (ap end_number c.in-Closed.is) (omega arith) refl

pub make_scaled-requires : goal.make_scaled-requires
make_scaled-requires c = rw c.in-Some.ensures.named (make_in (record { opens = c.in_ok-f.ensures; zero = refl; rule = c.in-Some.ensures.rule }) c.order_basis-b.ensures _ c.walk_in_field-o.ensures (ap end_number c.in-Closed.is) (omega arith))

pub shape_of-rows : goal.shape_of-rows
shape_of-rows c = c.make_scaled.ensures.size

pub shape_of-scratch : goal.shape_of-scratch
shape_of-scratch c = ap length c.make_scaled.ensures.blank ∙ length-replicate (length c.args.scratch.now) 0

pub returns-else-c-o : goal.returns-else-c-o
returns-else-c-o c = makes_made (record { opens = c.in_ok-f.ensures; zero = refl; rule = c.in-Some.ensures.rule }) c.order_basis-b.ensures _ c.walk_in_field-o.ensures (ap end_number c.in-Closed.is) (omega arith) (rw c.in-Some.ensures.named at c.make_scaled.ensures)
