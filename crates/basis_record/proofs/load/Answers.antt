-- `basis_record::load` meets its contract: `Loading`, j numbers are read.
use native.Mathlib.Omega.{arith}
use Rattle.basis_record.proofs.Store.{loading_start, loading_end}
use Rattle.basis_record.proofs.load.Goals as goal

pub loop-j-init : goal.loop-j-init
loop-j-init c = loading_start _ _

pub returns : goal.returns
returns c = loading_end _ c.args.i _ c.loop-j.j (omega arith) c.loop-j.invariant
