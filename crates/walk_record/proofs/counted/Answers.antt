-- `counted`: the test on numbers is the one that `counted` of specs/Record computes.
use mathlib.Core.Path.{sym}
use Rattle.walk_record.proofs.States.{counted_within, counted_over}
use Rattle.walk_record.proofs.counted.Goals as goal

pub returns-then-n-gt32 : goal.returns-then-n-gt32
returns-then-n-gt32 c = sym (counted_over _ c.if-n-gt32.true)

pub returns-else-n-gt32 : goal.returns-else-n-gt32
returns-else-n-gt32 c = sym (counted_within _ c.if-n-gt32.false)
