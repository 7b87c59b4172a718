-- `finished` meets its contract: proofs/Finishing.antt.
use Prim.Native.Nat.{◌≤◌, ◌<◌, ◌-◌}
use mathlib.Core.Path.{◌∙◌, ap, refl}
use native.Mathlib.Omega.{arith}
use lib.ListN.{length, length-replicate}
use Rattle.unit_finish.proofs.Finishing.{monic_in, inverse_in, finishes}
use Rattle.unit_finish.proofs.finished.Goals as goal

pub overflow_add-d : goal.overflow_add-d
overflow_add-d c = let a = c.args in
    let l : a.d < a.c = c.requires.task.room in let m : a.c ≤ 4096 = c.requires.task.most in omega arith

pub monic-requires : goal.monic-requires
monic-requires c = let a = c.args in
    monic_in a.f a.c a.d a.rows.now a.s.now c.requires

pub overflow_add-d-2 : goal.overflow_add-d-2
overflow_add-d-2 c = let a = c.args in
    let l : a.d < a.c = c.requires.task.room in
    let m : a.c ≤ 4096 = c.requires.task.most in
    omega arith

pub inverted-requires : goal.inverted-requires
inverted-requires c = let a = c.args in
    inverse_in a.f a.c a.d a.rows.now a.s.now c.requires _ c.monic.ensures _ refl

pub shape_of-rows : goal.shape_of-rows
shape_of-rows c = c.inverted.ensures.size ∙ c.monic.ensures.size

pub shape_of-s : goal.shape_of-s
shape_of-s c = ap length c.inverted.ensures.blank ∙ length-replicate (length c.args.s.now) 0

pub returns : goal.returns
returns c = let a = c.args in
    finishes a.f a.c a.d a.rows.now a.s.now _ _ _ c.monic.ensures c.inverted.ensures
