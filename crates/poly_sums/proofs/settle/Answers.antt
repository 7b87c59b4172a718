-- `poly_sums::settle` meets its contract: each turn is `over_more`.
use native.Mathlib.Omega.{arith}
use Rattle.poly_sums.proofs.Sums.{settled}
use Rattle.poly_sums.proofs.settle.Goals as goal

pub returns : goal.returns
returns c = settled _ c.requires (omega arith) c.loop-k.invariant
