-- `poly_sums::gather` meets its contract: each turn is `gathering_turn`.
use native.Mathlib.Omega.{arith}
use Rattle.poly_sums.proofs.Sums.{gathering_start, gathering_turn, gathering_end}
use Rattle.poly_sums.proofs.gather.Goals as goal

pub loop-i-init : goal.loop-i-init
loop-i-init c = gathering_start c.requires _

pub loop-i-preserved : goal.loop-i-preserved
loop-i-preserved c = gathering_turn c.requires c.args.minus _ c.loop-i.invariant c.loop-i-test.true c.signed-v.ensures c.laid.ensures

pub returns : goal.returns
returns c = gathering_end c.requires _ _ (omega arith) c.loop-i.invariant
