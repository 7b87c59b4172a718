-- `basis_reduce::clear_x` meets its contract: each turn is `shear_turn`; the length of X(n) falls.
use native.Mathlib.Omega.{arith}
use Rattle.basis_reduce.proofs.Shearing.{shear_pos, shear_top, shear_start, shear_turn_in, shear_turn, shear_end}
use Rattle.basis_reduce.proofs.clear_x.Goals as goal

pub overflow_sub-low : goal.overflow_sub-low
overflow_sub-low c = shear_pos c.requires c.floor_in.ensures _ c.size_from-l.ensures

pub top_of-x2-requires : goal.top_of-x2-requires
top_of-x2-requires c = shear_top c.requires c.floor_in.ensures _ c.size_from-l.ensures

pub loop-x2-init : goal.loop-x2-init
loop-x2-init c = shear_start c.requires c.floor_in.ensures _ c.size_from-l.ensures c.top_of-x2.ensures

pub canceled-x2-requires : goal.canceled-x2-requires
canceled-x2-requires c = shear_turn_in c.loop-x2.invariant c.loop-x2-test.true

pub loop-x2-preserved : goal.loop-x2-preserved
loop-x2-preserved c = shear_turn c.loop-x2.invariant c.loop-x2-test.true c.canceled-x2.ensures

pub returns : goal.returns
returns c = shear_end c.loop-x2.invariant (omega arith) c.floor_in.ensures c.size_from-l.ensures c.floor_in-2.ensures
