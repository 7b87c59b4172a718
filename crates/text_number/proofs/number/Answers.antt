-- `text_number::number` meets its contract.
use native.Mathlib.Omega.{arith}
use Rattle.text_number.proofs.Numbers.{sofar_none, sofar_more, sofar_small}
use Rattle.text_number.proofs.number.Goals as goal

pub loop-b-init : goal.loop-b-init
loop-b-init c = sofar_none c.args.s.now

pub overflow_mul-v : goal.overflow_mul-v
overflow_mul-v c = let h = sofar_small c.args.s.now c.loop-b.v c.loop-b.b-index c.loop-b.invariant (omega arith) in
    omega arith

pub overflow_add-v : goal.overflow_add-v
overflow_add-v c = let h = sofar_small c.args.s.now c.loop-b.v c.loop-b.b-index c.loop-b.invariant (omega arith) in
    omega arith

pub loop-b-preserved : goal.loop-b-preserved
loop-b-preserved c = sofar_more c.args.s.now c.loop-b.v c.loop-b.b-index c.loop-b.invariant (omega arith) (omega arith, omega arith) c.from.ensures
