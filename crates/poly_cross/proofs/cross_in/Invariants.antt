-- `poly_cross::cross_in` meets its contract: a row turned in place up to n, then `crossed`.
use Rattle.math_rows.proofs.Tab.{cross_at}
use Rattle.poly_cross.proofs.Cross.{Swept}
use Rattle.poly_cross.proofs.cross_in.Given as goal

abbrev pub invariant-loop-i : goal.invariant-loop-i
invariant-loop-i l = Swept 32 (cross_at l.q.p l.s l.initial.x l.c l.k l.y) l.initial.x l.x l.i
