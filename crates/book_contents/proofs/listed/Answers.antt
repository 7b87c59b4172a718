-- `book_contents::listed` meets its contract.
use borrow.Author.Count.{below_more}
use Rattle.book_contents.proofs.Contents.{ends_more, ends_first}
use native.Mathlib.Omega.{arith}
use Rattle.book_contents.proofs.listed.Goals as goal

pub loop-i-init : goal.loop-i-init
loop-i-init c = (ends_first _ _ c.two-n.ensures.0, omega arith, λ k l. absurd (omega arith))

pub loop-i-preserved : goal.loop-i-preserved
loop-i-preserved c = (omega (arith, ends_more c.args.s.now c.loop-i.i), omega arith, below_more _ _ c.loop-i.invariant.2 (omega arith))
