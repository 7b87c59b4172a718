-- `poly_sums::laid` meets its contract: each turn is `laying_turn`.
use Rattle.poly_sums.proofs.Sums.{Laying}
use Rattle.poly_sums.proofs.laid.Given as goal

abbrev pub invariant-loop-j : goal.invariant-loop-j
invariant-loop-j l = Laying l.p l.v l.y.row.now l.y.len l.i l.initial.acc l.acc l.j
