-- `text_cut::carry` meets its contract. The invariant: the bytes before b are carried.
use native.Mathlib.Omega.{arith}
use Rattle.base_lists.proofs.Puts.{placed_none, placed_all, placed_same}
use Rattle.text_cut.proofs.Keeps.{carried_more}
use Rattle.text_cut.proofs.carry.Goals as goal

pub loop-b-init : goal.loop-b-init
loop-b-init c = placed_none _ c.args.kept.now c.args.n

pub loop-b-preserved : goal.loop-b-preserved
loop-b-preserved c = carried_more c.args.s.now c.loop-b.b-index (omega arith) c.loop-b.invariant c.keep-m.ensures

pub shape_of-kept : goal.shape_of-kept
shape_of-kept c = placed_same c.loop-b.invariant

pub returns : goal.returns
returns c = placed_all c.args.s.now c.loop-b.b-index (omega arith) c.loop-b.invariant
