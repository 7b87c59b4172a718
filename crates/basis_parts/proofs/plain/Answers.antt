-- `basis_parts::plain` meets its contract: `Heap`, i products of numbers below p are summed.
use Rattle.basis_parts.proofs.Leaves.{heap_start, heap_more}
use Rattle.basis_parts.proofs.plain.Goals as goal

pub loop-i-init : goal.loop-i-init
loop-i-init c = heap_start c.requires _ c.saturating_sub-i.ensures

pub loop-i-preserved : goal.loop-i-preserved
loop-i-preserved c = heap_more c.requires _ _ c.loop-i-test.true c.loop-i.invariant
