-- `book_first::first_of` meets its contract.
use Prim.Native.Nat.{ℕ, ◌<◌}
use Rattle.book_body.specs.Body.{OneField}
use Rattle.book_field.specs.Code.{pair_of}
use Rattle.book_first.specs.Earliest.{entry}
use Rattle.book_first.proofs.first_of.Given as goal

abbrev pub invariant-loop-j : goal.invariant-loop-j
invariant-loop-j l = (k : ℕ) → k < l.j → OneField (pair_of l.p l.g l.h) (entry l.s k) → ⊥
