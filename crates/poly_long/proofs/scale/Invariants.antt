-- `poly_long::scale` meets its contract. The loop's invariant: the numbers passed are changed, the others are as they were.
use Prim.Native.Nat.{◌*◌, ◌%◌}
use lib.ListN.{get_or}
use Rattle.poly_long.proofs.Loops.{Changing}
use Rattle.poly_long.proofs.scale.Given as goal

abbrev pub invariant-loop-v : goal.invariant-loop-v
invariant-loop-v l = Changing (λ k. (get_or l.initial.d k 0 * l.s) % l.p) l.initial.d l.d l.v-index
