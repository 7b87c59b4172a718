-- Euclid in two lent rows, for a prime p: the longer of the two loses its leading term in place, until one is 0.
--   GcdAsks   a prepared modulus that is prime, and two rows
--   Common    a greatest common divisor, a combination of both
--   Lowered   x of n terms after its turn with y of m terms: s x − c t^(n−m) y, where s and c lead y and x; it has k < n terms
--   kept      the row in which the divisor is, by Euclid's answer; spent, the other one; terms, how many terms the divisor has
--   Found     what Euclid leaves: in the one row a greatest common divisor of the rows that were lent, and how many terms it has; 0 in the other
use Rattle.std.specs.Prelude.{List, ℕ, ◌-◌, ◌<◌, ◌≤◌, get_or}
use Rattle.math_fp.specs.Fp.{Prime}
use Rattle.math_valued.specs.Gcd.{IsGcd}
use Rattle.math_rows.specs.Made.{reading}
use Rattle.math_rows.specs.Row.{Row, Size}
use Rattle.num_mod.specs.Prepared.{Prepared}
use Rattle.num_mod.specs.declared.Modulus.{Modulus}
use Rattle.poly_rows.specs.Polynomial.{polynomial}
use Rattle.poly_cross.specs.Cross.{Crossed}
use Rattle.poly_euclid.specs.declared.Divisor.{Divisor}
use Rattle.poly_euclid.specs.declared.Divisor.TheVariants.{First, Second}

-- a prepared modulus that is prime, and two rows
pub record GcdAsks (q : Modulus) (x y : List ℕ) : Type 0 where
  pub modulus : Prepared q
  pub prime : Prime q.p
  pub hx : Row q.p x
  pub hy : Row q.p y

pub record Common (p : ℕ) (x y r : List ℕ) : Type 0 where
  pub is_row : Row p r
  pub law : (pr : Prime p) → IsGcd (reading p pr).𝓥 (polynomial p pr x) (polynomial p pr y) (polynomial p pr r)

pub record LoweredAsks (q : Modulus) (x : List ℕ) (n : ℕ) (y : List ℕ) (m : ℕ) : Type 0 where
  pub rows : GcdAsks q x y
  pub sx : Size x n
  pub sy : Size y m
  pub some : 0 < m
  pub over : m ≤ n

pub record Lowered (p : ℕ) (x : List ℕ) (n : ℕ) (y : List ℕ) (m : ℕ) (r : List ℕ) (k : ℕ) : Type 0 where
  pub crossed : Crossed p (get_or y (m - 1) 0) x (get_or x (n - 1) 0) (n - m) y r
  pub size : Size r k
  pub less : k < n

abbrev pub kept : Divisor → List ℕ → List ℕ → List ℕ
kept (First n) x y = x
kept (Second n) x y = y

abbrev pub spent : Divisor → List ℕ → List ℕ → List ℕ
spent (First n) x y = y
spent (Second n) x y = x

abbrev pub terms : Divisor → ℕ
terms (First n) = n
terms (Second n) = n

pub record Found (p : ℕ) (a b x y : List ℕ) (d : Divisor) : Type 0 where
  pub common : Common p a b (kept d x y)
  pub size : Size (kept d x y) (terms d)
  pub nothing : Size (spent d x y) 0
