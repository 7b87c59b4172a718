-- `poly_sums::settle` meets its contract: each turn is `over_more`.
use Prim.Native.Nat.{◌%◌}
use lib.ListN.{get_or}
use Rattle.poly_sums.proofs.Sums.{Over}
use Rattle.poly_sums.proofs.settle.Given as goal

abbrev pub invariant-loop-k : goal.invariant-loop-k
invariant-loop-k l = Over 32 (λ j. get_or l.initial.acc j 0 % l.q.p) l.initial.acc l.acc l.k
