-- `book_bytes::two` meets its contract.
use mathlib.Core.Path.{sym}
use native.Mathlib.Omega.{arith}
use borrow.Author.Rules.{rules}
use Rattle.book_bytes.proofs.Read.{val2, past2}
use Rattle.book_bytes.proofs.two.Goals as goal

pub returns-then-i-s : goal.returns-then-i-s
returns-then-i-s c = (omega (arith, val2 c.args.s.now c.args.i), omega arith)

pub returns-else-i-s : goal.returns-else-i-s
returns-else-i-s c = (sym (past2 _ _ c.if-i-s.false), search rules)
