-- `basis_parts::terms` meets its contract: `Run`, the first i terms are summed.
use Rattle.basis_parts.proofs.Leaves.{run_start, run_more}
use Rattle.basis_parts.proofs.terms.Goals as goal

pub loop-i-init : goal.loop-i-init
loop-i-init c = run_start c.requires _ c.saturating_sub-i.ensures

pub loop-i-preserved : goal.loop-i-preserved
loop-i-preserved c = run_more c.requires _ _ _ c.loop-i-test.true c.loop-i.invariant c.plus-a.ensures
