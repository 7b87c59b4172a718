-- `poly_rows::folded` meets its contract: each turn is `part_more`.
use mathlib.Core.Path.{◌≡◌}
use Prim.Native.Nat.{◌<◌, ◌+◌, ◌%◌}
use Rattle.math_rows.specs.Sum.{sum_to, term_at}
use Rattle.poly_rows.proofs.folded.Given as goal

abbrev pub invariant-loop-i : goal.invariant-loop-i
invariant-loop-i l = record {
  low : l.s < 9223372036854775808;
  law : (sum_to (term_at l.x l.y l.k) l.from + l.s) % l.p ≡ sum_to (term_at l.x l.y l.k) l.i % l.p;
}
