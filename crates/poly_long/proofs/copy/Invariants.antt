-- `poly_long::copy` meets its contract: the list is filled with the other's numbers.
use lib.ListN.{length, get_or}
use Rattle.math_rows.proofs.Tab.{Filled}
use Rattle.poly_long.proofs.copy.Given as goal

abbrev pub invariant-loop-i : goal.invariant-loop-i
invariant-loop-i l = Filled (length l.initial.d) (λ k. get_or l.s k 0) l.d l.i
