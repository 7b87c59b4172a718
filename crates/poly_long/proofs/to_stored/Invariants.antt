-- `poly_long::to_stored` meets its contract: the row is filled with the other's numbers.
use lib.ListN.{get_or}
use Rattle.math_rows.proofs.Tab.{Filled}
use Rattle.poly_long.proofs.to_stored.Given as goal

abbrev pub invariant-loop-i : goal.invariant-loop-i
invariant-loop-i l = Filled 32 (λ k. get_or l.x k 0) l.r l.i
