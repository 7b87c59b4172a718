-- `book_norm::load` meets its contract.
use Prim.Native.Nat.{ℕ}
use lib.ListN.{length, get_or}
use Rattle.math_rows.proofs.Tab.{Filled}
use Rattle.book_body.specs.Body.{list_at}
use Rattle.book_norm.proofs.load.Given as goal

abbrev pub invariant-loop-i : goal.invariant-loop-i
invariant-loop-i l = Filled (length l.initial.out) (λ (j : ℕ). get_or (list_at l.s l.k) j 0) l.out l.i
