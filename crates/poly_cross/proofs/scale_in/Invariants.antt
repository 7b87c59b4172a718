-- `poly_cross::scale_in` meets its contract: a row turned in place up to n, then `scaled`.
use Prim.Native.Nat.{◌*◌, ◌%◌}
use lib.ListN.{get_or}
use Rattle.poly_cross.proofs.Cross.{Swept}
use Rattle.poly_cross.proofs.scale_in.Given as goal

abbrev pub invariant-loop-i : goal.invariant-loop-i
invariant-loop-i l = Swept 32 (λ k. (l.c * get_or l.initial.x k 0) % l.q.p) l.initial.x l.x l.i
