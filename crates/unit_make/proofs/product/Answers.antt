-- `product` meets its contract. The loop's invariant is `Stepping`.
use Prim.Native.Nat.{◌-◌}
use mathlib.Core.Path.{◌∙◌, ap}
use native.Mathlib.Omega.{arith}
use native.Mathlib.Numerals.{add-one}
use lib.ListN.{length, length-replicate}
use Rattle.unit_make.proofs.Stepping.{stepping_start, stepping_further, stepping_below, stepping_more, stepping_end}
use Rattle.unit_make.proofs.product.Goals as goal

pub loop-i-init : goal.loop-i-init
loop-i-init c = let a = c.args in
    stepping_start a.f a.c a.from a.steps a.rows.now a.s.now c.requires.blank

pub step_and_multiply-o-requires : goal.step_and_multiply-o-requires
step_and_multiply-o-requires c = let a = c.args in
    stepping_further a.f a.c a.from a.steps a.rows.now a.s.now _ _ _ _ _ c.loop-i.invariant c.loop-i-test.true c.requires

pub overflow_add-d : goal.overflow_add-d
overflow_add-d c = let a = c.args in
    let l = stepping_below a.f a.c a.from a.steps a.rows.now a.s.now _ _ _ _ _ c.loop-i.invariant c.loop-i-test.true c.requires
    c.step_and_multiply-o.result _ _ c.step_and_multiply-o.ensures in
    omega (arith, l)

pub loop-i-preserved : goal.loop-i-preserved
loop-i-preserved c = let a = c.args in
    stepping_more a.f a.c a.from a.steps a.rows.now a.s.now _ _ _ _ _ c.loop-i.invariant c.loop-i-test.true _ _ _ c.step_and_multiply-o.ensures _ (add-one _)

pub shape_of-rows : goal.shape_of-rows
shape_of-rows c = c.loop-i.invariant.size

pub shape_of-s : goal.shape_of-s
shape_of-s c = ap length c.loop-i.invariant.blank ∙ length-replicate (length c.args.s.now) 0

pub returns : goal.returns
returns c = let a = c.args in
    stepping_end a.f a.c a.from a.steps a.rows.now a.s.now _ _ _ _ _ c.loop-i.invariant (omega (arith, c.loop-i.invariant.upto))
