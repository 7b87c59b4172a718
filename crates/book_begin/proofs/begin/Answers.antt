-- `begin` meets its contract.
use native.Mathlib.Omega.{arith}
use Rattle.book_begin.proofs.Begun.{too_short, put_begun}
use Rattle.book_begin.proofs.begin.Goals as goal

pub returns-then-out-lt6 : goal.returns-then-out-lt6
returns-then-out-lt6 c = too_short _ (omega arith)

pub returns : goal.returns
returns c = put_begun _ _ _ (omega arith) c.copy_in-n.ensures
