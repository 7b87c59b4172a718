-- `basis_reduce::clear_x` meets its contract: each turn is `shear_turn`; the length of X(n) falls.
use Rattle.basis_clear.specs.Clear.{pair}
use Rattle.basis_reduce.specs.Reduction.{Shearing}
use Rattle.basis_reduce.proofs.clear_x.Given as goal

abbrev pub invariant-loop-x2 : goal.invariant-loop-x2
invariant-loop-x2 l = Shearing l.f (pair l.m.b l.m.c l.initial.n.b l.initial.n.c) l.top l.n.b l.n.c l.x1 l.x2

abbrev pub decreases-loop-x2 : goal.decreases-loop-x2
decreases-loop-x2 l = l.x2.n
