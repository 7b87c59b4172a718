-- `basis_reduce::reduced` meets its contract: `shear_in` between the loops, `reduced_end` after them.
use Rattle.basis_reduce.proofs.Shearing.{shear_in, reduced_end}
use Rattle.basis_reduce.proofs.reduced.Goals as goal

pub clear_x-l-requires : goal.clear_x-l-requires
clear_x-l-requires c = shear_in c.if-swap.ensures

pub clear_x-l-requires-else-swap : goal.clear_x-l-requires-else-swap
clear_x-l-requires-else-swap c = shear_in c.if-swap.ensures

pub returns-then-swap : goal.returns-then-swap
returns-then-swap c = reduced_end c.if-swap.ensures c.clear_x-l.ensures

pub returns-else-swap : goal.returns-else-swap
returns-else-swap c = reduced_end c.if-swap.ensures c.clear_x-l-else-swap.ensures
