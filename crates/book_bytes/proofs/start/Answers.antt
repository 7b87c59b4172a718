-- `book_bytes::start` meets its contract.
use Rattle.book_bytes.proofs.Lists.{list_start_zero, list_start_more}
use mathlib.Core.Path.{sym}
use native.Mathlib.Omega.{arith}
use Rattle.book_bytes.proofs.start.Goals as goal

pub loop-i-init : goal.loop-i-init
loop-i-init c = (sym (list_start_zero _ _ _), omega arith)

pub loop-i-preserved : goal.loop-i-preserved
loop-i-preserved c = (omega (arith, list_start_more c.args.head c.args.from c.args.s.now c.loop-i.i), omega arith)
