-- `basis_clear::clear_y` meets its contract: each turn is `clear_turn` (of the swapped state where n is turned); the lengths of both Y fall.
use native.Mathlib.Omega.{arith}
use Rattle.basis_clear.proofs.Clearing.{clear_top, clear_start, clear_swap, clear_in, clear_turn, clear_end}
use Rattle.basis_clear.proofs.clear_y.Goals as goal

pub top_of-y1-requires : goal.top_of-y1-requires
top_of-y1-requires c = clear_top c.requires c.requires.hm

pub top_of-y2-requires : goal.top_of-y2-requires
top_of-y2-requires c = clear_top c.requires c.requires.hn

pub loop-y1-init : goal.loop-y1-init
loop-y1-init c = clear_start c.requires c.top_of-y1.ensures c.top_of-y2.ensures

pub returns-then-y2-lu : goal.returns-then-y2-lu
returns-then-y2-lu c = clear_end (clear_swap c.loop-y1.invariant) c.if-y2-lu.true

pub canceled-y2-requires : goal.canceled-y2-requires
canceled-y2-requires c = clear_in (clear_swap c.loop-y1.invariant) c.loop-y1-test.true (omega arith)

pub loop-y1-preserved-then-y1-y2 : goal.loop-y1-preserved-then-y1-y2
loop-y1-preserved-then-y1-y2 c = clear_swap (clear_turn (clear_swap c.loop-y1.invariant) c.loop-y1-test.true (omega arith) c.canceled-y2.ensures)

pub canceled-y1-requires : goal.canceled-y1-requires
canceled-y1-requires c = clear_in c.loop-y1.invariant c.if-y2-lu.false (omega arith)

pub loop-y1-preserved : goal.loop-y1-preserved
loop-y1-preserved c = clear_turn c.loop-y1.invariant c.if-y2-lu.false (omega arith) c.canceled-y1.ensures

pub returns : goal.returns
returns c = clear_end c.loop-y1.invariant (omega arith)
