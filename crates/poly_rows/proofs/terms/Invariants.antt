-- `poly_rows::terms` meets its contract: below 2^28 each product is at most 2^56.
use mathlib.Core.Path.{◌≡◌}
use Prim.Native.Nat.{◌≤◌, ◌*◌, ◌+◌}
use Rattle.math_rows.specs.Sum.{sum_to, term_at}
use Rattle.poly_rows.proofs.terms.Given as goal

abbrev pub invariant-loop-i : goal.invariant-loop-i
invariant-loop-i l = record {
  low : l.s ≤ 72057594037927936 * l.i;
  law : sum_to (term_at l.x l.y l.k) l.from + l.s ≡ sum_to (term_at l.x l.y l.k) l.i;
}
