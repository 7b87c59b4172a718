-- `poly_mix::sum_at` meets its contract: proofs/Sums.antt.
use Rattle.poly_mix.proofs.Sums.{Summing}
use Rattle.poly_mix.proofs.sum_at.Given as goal

abbrev pub invariant-loop-i : goal.invariant-loop-i
invariant-loop-i l = Summing l.x l.n l.y l.k l.from l.to l.s l.i
