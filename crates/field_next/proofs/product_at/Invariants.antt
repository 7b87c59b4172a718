-- `field_next::product_at` meets its contract. The loop's invariant: the sum of the products passed; past the end of the first list there are none.
use Prim.Native.Nat.{◌≤◌, ◌-◌, ◌*◌}
use mathlib.Core.Path.{◌≡◌}
use Rattle.base_lists.specs.Sums.{entry}
use Rattle.math_rows.specs.Sum.{sum_to}
use Rattle.field_next.proofs.product_at.Given as goal

abbrev pub invariant-loop-j : goal.invariant-loop-j
invariant-loop-j l = (l.sum ≤ l.j * 4294836225) × (l.sum ≡ sum_to (λ m. entry l.f m * entry l.g (l.i - m)) l.j)
