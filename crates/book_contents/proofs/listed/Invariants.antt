-- `book_contents::listed` meets its contract.
use Rattle.book_contents.specs.Contents.{ends, start_at}
use Prim.Native.Nat.{ℕ, ◌≤◌, ◌<◌, ◌*◌, ◌+◌}
use mathlib.Core.Path.{◌≡◌}
use Rattle.book_contents.proofs.listed.Given as goal

abbrev pub invariant-loop-i : goal.invariant-loop-i
invariant-loop-i l = (l.at ≡ ends l.s l.i) × (l.at ≤ 524286 + 4294967296 * l.i) × ((k : ℕ) → k < l.i → start_at l.s k ≡ ends l.s k)
