-- `poly_divide::quotient_in` meets its contract: each turn is `dividing_turn`.
use Rattle.poly_rows.proofs.Division.{Dividing}
use Rattle.poly_divide.proofs.quotient_in.Given as goal

abbrev pub invariant-loop-k : goal.invariant-loop-k
invariant-loop-k l = Dividing l.q.p l.a.row.now l.b.row.now l.il l.b.len l.top l.r l.k
