-- `poly_mix::mix` meets its contract: the list is filled with the remainders of the sums, which need no more than the sizes of g and h.
use Prim.Native.Nat.{◌+◌, ◌%◌}
use lib.ListN.{length}
use Rattle.math_rows.specs.Sum.{sum_to, term_at}
use Rattle.math_rows.proofs.Tab.{Filled}
use Rattle.poly_mix.proofs.mix.Given as goal

abbrev pub invariant-loop-k : goal.invariant-loop-k
invariant-loop-k l = Filled (length l.initial.d) (λ i. (sum_to (term_at l.g l.x i) (length l.g) + sum_to (term_at l.h l.y i) (length l.h)) % l.p) l.d l.k
