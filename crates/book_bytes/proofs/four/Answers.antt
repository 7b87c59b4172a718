-- `book_bytes::four` meets its contract.
use mathlib.Core.Path.{sym}
use native.Mathlib.Omega.{arith}
use borrow.Author.Rules.{rules}
use Rattle.book_bytes.proofs.Read.{val4, past4}
use Rattle.book_bytes.proofs.four.Goals as goal

pub returns-then-i-s : goal.returns-then-i-s
returns-then-i-s c = (omega (arith, val4 c.args.s.now c.args.i), omega arith)

pub returns-else-i-s : goal.returns-else-i-s
returns-else-i-s c = (sym (past4 _ _ c.if-i-s.false), search rules)
