-- What the functions on rows ask and hand out. A row of 32 numbers below p stands for the polynomial `row` (crate math_rows); p is prime,
-- where a law speaks of polynomials.
--   size, size_from   the trimmed length: `Size` of crate math_rows
--   minus             Opposite: − x
--   mul               Product: x y, where the product Fits into a row
--   from_list         Listed: the polynomial of a list
use Rattle.std.specs.Prelude.{◌≡◌, List, ℕ, ◌+◌, ◌≤◌, length, get_or}
use Rattle.math_fp.specs.Fp.{Prime}
use Rattle.num_mod.specs.Residue.{IsModulus}
use Rattle.math_rows.specs.Made.{reading}
use Rattle.math_rows.specs.Row.{Row, Size, row}

-- ---- lengths
pub record Cut (x : List ℕ) (n : ℕ) : Type 0 where
  pub size : length x ≡ 32
  pub fits : n ≤ 32
  pub above : (i : ℕ) → n ≤ i → get_or x i 0 ≡ 0

-- a row of numbers below p that is 0 from n on
pub record Short (p : ℕ) (x : List ℕ) (n : ℕ) : Type 0 where
  pub is_row : Row p x
  pub above : (i : ℕ) → n ≤ i → get_or x i 0 ≡ 0

-- ---- sums
pub record Given (p : ℕ) (x : List ℕ) : Type 0 where
  pub modulus : IsModulus p
  pub prime : Prime p
  pub hx : Row p x

pub record Opposite (p : ℕ) (x r : List ℕ) : Type 0 where
  pub is_row : Row p r
  pub law : (pr : Prime p) → let ρ = reading p pr in row ρ r ≡ ρ.𝓥.L.ops.neg (row ρ x)

-- ---- products
abbrev pub Fits : List ℕ → List ℕ → Type 0
Fits x y = (n m : ℕ) → Size x n → Size y m → n + m ≤ 33

pub record MulAsks (p : ℕ) (x y : List ℕ) : Type 0 where
  pub modulus : IsModulus p
  pub prime : Prime p
  pub hx : Row p x
  pub hy : Row p y
  pub room : Fits x y

pub record Product (p : ℕ) (x y r : List ℕ) : Type 0 where
  pub is_row : Row p r
  pub law : (pr : Prime p) → let ρ = reading p pr in row ρ r ≡ ρ.𝓥.L.ops.mul (row ρ x) (row ρ y)

-- ---- lists
pub record Listed (s r : List ℕ) : Type 0 where
  pub size : length r ≡ 32
  pub each : (i : ℕ) → get_or r i 0 ≡ get_or s i 0
  pub law : (p : ℕ) (pr : Prime p) → row (reading p pr) r ≡ row (reading p pr) s
