-- `poly_euclid::euclid` meets its contract: each turn is `euclid_turn`, of the exchanged rows where the second is longer.
use Prim.Native.Nat.{◌+◌}
use Rattle.poly_euclid.proofs.Turns.{Euclid}
use Rattle.poly_euclid.proofs.euclid.Given as goal

abbrev pub invariant-loop-m : goal.invariant-loop-m
invariant-loop-m l = Euclid l.q.p l.initial.x l.initial.y l.x l.y l.n l.m

abbrev pub decreases-loop-m : goal.decreases-loop-m
decreases-loop-m l = l.n + l.m
