-- `poly_quotient::quotient` meets its contract: each turn is `down_more` of proofs/Division.antt.
use native.Mathlib.Omega.{arith}
use Rattle.poly_quotient.proofs.Division.{down_start, down_more, down_end}
use Rattle.poly_quotient.proofs.quotient.Goals as goal

pub loop-k-init : goal.loop-k-init
loop-k-init c = down_start _ _ _ _ _ _ _ _ _ (omega arith)

pub overflow_cast-q : goal.overflow_cast-q
overflow_cast-q c = omega (arith, c.digit.ensures.below, c.requires.modulus.small)

pub loop-k-preserved : goal.loop-k-preserved
loop-k-preserved c = down_more _ _ _ _ _ _ _ _ _ _ _ _ c.requires c.loop-k.invariant (omega arith) c.digit.ensures

pub shape_of-q : goal.shape_of-q
shape_of-q c = c.loop-k.invariant.size

pub returns : goal.returns
returns c = down_end _ _ _ _ _ _ _ _ _ _ _ c.loop-k.invariant (omega arith)
