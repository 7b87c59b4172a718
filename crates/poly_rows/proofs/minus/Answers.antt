-- `poly_rows::minus` meets its contract: the numbers passed are turned, the others are those of x.
use native.Mathlib.Omega.{arith}
use Rattle.math_rows.proofs.Tab.{filled_end}
use Rattle.poly_rows.proofs.Leaf.{opposite}
use Rattle.poly_rows.proofs.minus.Goals as goal

pub returns : goal.returns
returns c = let l = c.loop-c in
    opposite c.args.p c.args.x.now _ c.requires (filled_end 32 _ _ l.c-index (record { size = l.invariant.size; upto = omega arith; done = l.invariant.done }) (omega arith))
