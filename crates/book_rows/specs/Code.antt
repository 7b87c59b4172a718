-- What the code's own functions promise each other.
--   Widened row d r d'   the row without the zeros at its end stands at the front of the slice d, which is d' then; r is its length
use Rattle.std.specs.Prelude.{List, ℕ, ◌≤◌, length}
use Rattle.base_lists.specs.Pieces.{Written}
use Rattle.base_lists.specs.Coefficients.{trim}

pub record Widened (row d : List ℕ) (r : ℕ) (d' : List ℕ) : Type 0 where
  pub put : Written d 0 (trim row) (length (trim row)) r d'
  pub within : r ≤ length row
