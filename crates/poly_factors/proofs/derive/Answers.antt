-- `poly_factors::derive` meets its contract: a row of zeros filled up to the length of x, then `derived`.
use native.Mathlib.Omega.{arith}
use Rattle.poly_factors.proofs.Factors.{derive_start, derived}
use Rattle.poly_factors.proofs.derive.Goals as goal

pub loop-i-init : goal.loop-i-init
loop-i-init c = derive_start c.requires

pub returns : goal.returns
returns c = derived c.args.p c.args.x.now c.size.result c.loop-i.i _ c.requires.given c.size.ensures (omega arith) c.loop-i.invariant
