-- `text_put::put_bytes` meets its contract. The invariant: the bytes before b are put.
use native.Mathlib.Omega.{arith}
use Rattle.base_lists.proofs.Puts.{placed_none, put_more, placed_all, placed_same}
use Rattle.text_put.proofs.put_bytes.Goals as goal

pub loop-b-init : goal.loop-b-init
loop-b-init c = placed_none _ c.args.out.now c.args.at

pub loop-b-preserved : goal.loop-b-preserved
loop-b-preserved c = put_more c.args.s.now c.loop-b.b-index (omega arith) c.loop-b.invariant c.put_byte-to.ensures

pub shape_of-out : goal.shape_of-out
shape_of-out c = placed_same c.loop-b.invariant

pub returns : goal.returns
returns c = placed_all c.args.s.now c.loop-b.b-index (omega arith) c.loop-b.invariant
