-- `book_bytes::start` meets its contract.
use Rattle.book_bytes.specs.Bytes.{list_start}
use Prim.Native.Nat.{◌≤◌, ◌*◌, ◌+◌}
use mathlib.Core.Path.{◌≡◌}
use Rattle.book_bytes.proofs.start.Given as goal

abbrev pub invariant-loop-i : goal.invariant-loop-i
invariant-loop-i l = (l.at ≡ list_start l.head l.from l.s l.i) × (l.at ≤ l.head + 131070 * l.i)
