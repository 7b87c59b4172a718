-- `field_fill::head` meets its contract.
use mathlib.Core.Path.{sym}
use native.Mathlib.Omega.{arith}
use Rattle.field_fill.proofs.Top.{top_in, top_out, top_below}
use Rattle.field_fill.proofs.head.Goals as goal

pub overflow_cast-result : goal.overflow_cast-result
overflow_cast-result c = omega (arith, top_in c.args.s.now c.args.i (omega arith), top_below c.requires.list.1 c.args.i, c.requires.small)

pub returns-then-i-n : goal.returns-then-i-n
returns-then-i-n c = sym (top_in c.args.s.now c.args.i (omega arith))

pub returns-else-i-n : goal.returns-else-i-n
returns-else-i-n c = sym (top_out c.args.s.now c.args.i (omega arith))
