-- `basis_clear::clear_y` meets its contract: each turn is `clear_turn` (of the swapped state where n is turned); the lengths of both Y fall.
use Prim.Native.Nat.{◌+◌}
use Rattle.basis_clear.specs.Clear.{Clearing, pair}
use Rattle.basis_clear.proofs.clear_y.Given as goal

abbrev pub invariant-loop-y1 : goal.invariant-loop-y1
invariant-loop-y1 l = Clearing l.f (pair l.initial.m.b l.initial.m.c l.initial.n.b l.initial.n.c) l.top l.lu (pair l.m.b l.m.c l.n.b l.n.c) l.y1 l.y2

abbrev pub decreases-loop-y1 : goal.decreases-loop-y1
decreases-loop-y1 l = l.y1.n + l.y2.n
