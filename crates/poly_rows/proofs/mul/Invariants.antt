-- `poly_rows::mul` meets its contract: a row filled up to the product's length, then `product`.
use Prim.Native.Nat.{◌%◌}
use Rattle.math_rows.specs.Sum.{sum_to, term_at}
use Rattle.math_rows.proofs.Tab.{Begun}
use Rattle.poly_rows.proofs.mul.Given as goal

abbrev pub invariant-loop-k : goal.invariant-loop-k
invariant-loop-k l = Begun 32 (λ j. sum_to (term_at l.x l.y j) l.n % l.q.p) l.r l.k
