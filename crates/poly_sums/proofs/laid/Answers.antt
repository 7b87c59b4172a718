-- `poly_sums::laid` meets its contract: each turn is `laying_turn`.
use native.Mathlib.Omega.{arith}
use Rattle.poly_sums.proofs.Sums.{laying_start, laying_turn, laying_end}
use Rattle.poly_sums.proofs.laid.Goals as goal

pub loop-j-init : goal.loop-j-init
loop-j-init c = laying_start c.requires

pub loop-j-preserved : goal.loop-j-preserved
loop-j-preserved c = laying_turn c.requires _ c.loop-j.invariant c.loop-j-test.true c.add_product.ensures

pub returns : goal.returns
returns c = laying_end c.requires _ (omega arith) c.loop-j.invariant
