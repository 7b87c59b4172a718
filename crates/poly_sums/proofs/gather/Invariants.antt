-- `poly_sums::gather` meets its contract: each turn is `gathering_turn`.
use Rattle.poly_sums.proofs.Sums.{Gathering}
use Rattle.poly_sums.proofs.gather.Given as goal

abbrev pub invariant-loop-i : goal.invariant-loop-i
invariant-loop-i l = Gathering l.p l.minus l.x.row.now l.x.len l.y.row.now l.y.len l.initial.acc l.acc l.i
