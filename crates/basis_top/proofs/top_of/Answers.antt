-- `basis_top::top_of` meets its contract: the lemmas of Tops that begin with seek.
use native.Mathlib.Omega.{arith}
use Rattle.basis_top.proofs.Tops.{seek_more, seek_found}
use Rattle.basis_top.proofs.top_of.Goals as goal

pub returns-then-v-gt0 : goal.returns-then-v-gt0
returns-then-v-gt0 c = seek_found c.requires _ _ c.loop-j-test.true c.loop-j.invariant c.digit-v.ensures c.if-v-gt0.true

pub loop-j-preserved : goal.loop-j-preserved
loop-j-preserved c = seek_more c.requires _ _ c.loop-j-test.true c.loop-j.invariant c.digit-v.ensures (omega arith)
