-- `step_and_multiply` meets its contract: proofs/Stepping.antt.
use Prim.Native.Nat.{◌≤◌, ◌-◌}
use mathlib.Core.Path.{◌∙◌, ap}
use native.Mathlib.Omega.{arith}
use lib.ListN.{length, length-replicate}
use Rattle.unit_make.proofs.Stepping.{further_next, further_below, further_multiply, further_made}
use Rattle.unit_make.proofs.step_and_multiply.Goals as goal

pub step_in_field-o-requires : goal.step_in_field-o-requires
step_in_field-o-requires c = let a = c.args in
    further_next a.f a.c a.d a.b a.rows.now a.s.now c.requires

pub overflow_add-d : goal.overflow_add-d
overflow_add-d c = let a = c.args in
    let l = further_below a.f a.c a.d a.b a.rows.now a.s.now c.requires c.step_in_field-o.result c.step_in_field-o.ensures in
    let m : a.c ≤ 4096 = c.requires.task.most in
    omega (arith, l)

pub overflow_add-d-2 : goal.overflow_add-d-2
overflow_add-d-2 c = let a = c.args in
    let l = further_below a.f a.c a.d a.b a.rows.now a.s.now c.requires c.step_in_field-o.result c.step_in_field-o.ensures in
    let m : a.c ≤ 4096 = c.requires.task.most in
    omega (arith, l)

pub multiplied-requires : goal.multiplied-requires
multiplied-requires c = let a = c.args in
    further_multiply a.f a.c a.d a.b a.rows.now a.s.now c.requires c.step_in_field-o.result c.step_in_field-o.ensures

pub shape_of-rows : goal.shape_of-rows
shape_of-rows c = c.multiplied.ensures.size

pub shape_of-s : goal.shape_of-s
shape_of-s c = ap length c.multiplied.ensures.blank ∙ length-replicate (length c.args.s.now) 0

pub returns : goal.returns
returns c = let a = c.args in
    further_made a.f a.c a.d a.b a.rows.now a.s.now c.step_in_field-o.result c.step_in_field-o.ensures _ _ c.multiplied.ensures
