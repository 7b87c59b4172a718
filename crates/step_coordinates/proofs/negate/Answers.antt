-- `step_coordinates::negate` meets its contract: what is left after the turns.
use native.Mathlib.Omega.{arith}
use Rattle.step_coordinates.proofs.Negated.{negated}
use Rattle.step_coordinates.proofs.negate.Goals as goal

pub returns : goal.returns
returns c = negated c.requires c.loop-i.i (omega arith) c.loop-i.invariant
