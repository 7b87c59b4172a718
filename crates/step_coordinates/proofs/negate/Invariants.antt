-- `step_coordinates::negate` meets its contract: each turn is `over_more`.
use Prim.Native.Nat.{◌-◌, ◌%◌}
use lib.ListN.{get_or}
use Rattle.poly_sums.proofs.Sums.{Over}
use Rattle.step_coordinates.proofs.negate.Given as goal

abbrev pub invariant-loop-i : goal.invariant-loop-i
invariant-loop-i l = Over 32 (λ j. (l.p - get_or l.initial.x j 0) % l.p) l.initial.x l.x l.i
