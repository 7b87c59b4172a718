-- `basis_parts::plain` meets its contract: `Heap`, i products of numbers below p are summed.
use Prim.Native.Nat.{◌+◌, ◌*◌}
use Rattle.basis_parts.proofs.Leaves.{Run}
use Rattle.basis_parts.proofs.plain.Given as goal

abbrev pub invariant-loop-i : goal.invariant-loop-i
invariant-loop-i l = Run l.p (l.i * (l.p * l.p) + 1) l.b l.n l.s l.d l.j l.i l.a
