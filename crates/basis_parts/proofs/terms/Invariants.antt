-- `basis_parts::terms` meets its contract: `Run`, the first i terms are summed.
use Rattle.basis_parts.proofs.Leaves.{Run}
use Rattle.basis_parts.proofs.terms.Given as goal

abbrev pub invariant-loop-i : goal.invariant-loop-i
invariant-loop-i l = Run l.p l.q l.b l.n l.s l.d l.j l.i l.a
