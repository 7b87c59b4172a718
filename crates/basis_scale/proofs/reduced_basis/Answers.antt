-- `basis_scale::reduced_basis` meets its contract: `finished` of the pair that the reduction made, in its order.
use mathlib.Core.Bool.{true, false}
use Rattle.basis_scale.proofs.reduced_basis.Goals as goal

pub returns-then-o : goal.returns-then-o
returns-then-o c = let o = c.finished.ensures in
    record { based = o.each c.requires.inp c.requires.size (rw c.if-o.true at c.reduced-o.ensures); swap = true; left = o.left }

pub returns-else-o : goal.returns-else-o
returns-else-o c = let o = c.finished-else-o.ensures in
    record { based = o.each c.requires.inp c.requires.size (rw c.if-o.false at c.reduced-o.ensures); swap = false; left = o.left }
