-- The polynomial of a list, as an element of the ring of polynomials. p is prime.
--   polynomial   the polynomial of a list
use Rattle.std.specs.Prelude.{List, ℕ}
use Rattle.math_fp.specs.Fp.{Prime}
use Rattle.math_valued.specs.Polynomial.{Poly}
use Rattle.math_rows.specs.Made.{reading}
use Rattle.math_rows.specs.Row.{row}
use Rattle.math_rows.proofs.Rows.{row_poly}

abbrev pub polynomial : (p : ℕ) (pr : Prime p) → List ℕ → Poly (reading p pr).𝓥
polynomial p pr l = (row (reading p pr) l, row_poly (reading p pr) l)
