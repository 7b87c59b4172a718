-- `book_bytes::lift` meets its contract.
use native.Mathlib.Omega.{arith}
use Rattle.book_bytes.proofs.Write.{lifted}
use Rattle.book_bytes.proofs.lift.Goals as goal

pub returns : goal.returns
returns c = lifted c.args.out.now c.args.from c.args.to c.args.by _ (omega arith) (omega arith) c.copy_within.ensures.after
