-- `book_check::check` meets its contract.
use Rattle.book_check.specs.Book.{Sound}
use Prim.Native.Nat.{ℕ, ◌<◌}
use Rattle.book_check.proofs.check.Given as goal

abbrev pub invariant-loop-i : goal.invariant-loop-i
invariant-loop-i l = (k : ℕ) → k < l.i → Sound l.s k
