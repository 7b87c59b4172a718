-- What a greatest common divisor (crate poly_euclid) decides. p is prime.
--   derivative   Derived: d/dt
--   squarefree   SquareTest: true, squarefree; false, some non-constant d has d² | x
--   both_free    FreeTest p x y r: true, the polynomials of x and y are squarefree; false, one of them has a square factor
--   coprime      CoprimeTest: true, coprime; false, some non-constant d divides both
-- In proofs/Free: `free_unique`, FreeTest has one answer for each input (for a prime p).
use Rattle.std.specs.Prelude.{◌≡◌, ◌⊎◌, Bool, true, false, List, ℕ, replicate}
use Rattle.math_fp.specs.Fp.{Prime}
use Rattle.math_valued.specs.Polynomial.{Squarefree, Coprime}
use Rattle.math_valued.specs.Factor.{SquareFactor, CommonFactor}
use Rattle.num_mod.specs.Residue.{IsModulus}
use Rattle.math_rows.specs.Made.{reading, derivation}
use Rattle.math_rows.specs.Row.{Row, row}
use Rattle.poly_rows.specs.Leaf.{Given}
use Rattle.poly_rows.specs.Polynomial.{polynomial}

pub record DeriveAsks (p : ℕ) (x d : List ℕ) : Type 0 where
  pub given : Given p x
  pub blank : d ≡ replicate 32 0

pub record Derived (p : ℕ) (x r : List ℕ) : Type 0 where
  pub is_row : Row p r
  pub law : (pr : Prime p) → row (reading p pr) r ≡ (derivation p pr).D (row (reading p pr) x)

pub record OverBoth (p : ℕ) (x y : List ℕ) : Type 0 where
  pub modulus : IsModulus p
  pub prime : Prime p
  pub hx : Row p x
  pub hy : Row p y

abbrev pub SquareTest : ℕ → List ℕ → Bool → Type 0
SquareTest p x true = (pr : Prime p) → Squarefree (reading p pr).𝓥 (polynomial p pr x)
SquareTest p x false = (pr : Prime p) → SquareFactor (reading p pr).𝓥 (polynomial p pr x)

abbrev pub FreeTest : ℕ → List ℕ → List ℕ → Bool → Type 0
FreeTest p x y true = (pr : Prime p) → Squarefree (reading p pr).𝓥 (polynomial p pr x) × Squarefree (reading p pr).𝓥 (polynomial p pr y)
FreeTest p x y false = (pr : Prime p) → SquareFactor (reading p pr).𝓥 (polynomial p pr x) ⊎ SquareFactor (reading p pr).𝓥 (polynomial p pr y)

abbrev pub CoprimeTest : ℕ → List ℕ → List ℕ → Bool → Type 0
CoprimeTest p x y true = (pr : Prime p) → Coprime (reading p pr).𝓥 (polynomial p pr x) (polynomial p pr y)
CoprimeTest p x y false = (pr : Prime p) → CommonFactor (reading p pr).𝓥 (polynomial p pr x) (polynomial p pr y)
