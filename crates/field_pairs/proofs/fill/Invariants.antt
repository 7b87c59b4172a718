-- `field_pairs::fill` meets its contract. The loop's invariant: the two lists are filled up to i, and r begins with the cube root.
use mathlib.Core.Path.{◌≡◌}
use lib.ListN.{length}
use Rattle.base_lists.specs.Sums.{entry}
use Rattle.field_next.specs.Next.{Filled}
use Rattle.field_pairs.proofs.fill.Given as goal

abbrev pub invariant-loop-i : goal.invariant-loop-i
invariant-loop-i l = (length l.r ≡ length l.initial.r) × (length l.w ≡ length l.r) × (entry l.r 0 ≡ l.c) × Filled l.p l.g l.h l.r l.w l.i
