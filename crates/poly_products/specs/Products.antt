-- What the product of long polynomials asks and hands out; lists and p as in crate poly_long.
--   times   Times   x y
use Rattle.std.specs.Prelude.{◌≡◌, List, ℕ, ◌+◌, ◌<◌, ◌≤◌, length, get_or}
use Rattle.math_fp.specs.Fp.{Prime}
use Rattle.math_rows.specs.Made.{reading}
use Rattle.math_rows.specs.Row.{row}
use Rattle.poly_long.specs.Long.{Storable}

pub record TimesAsks (p : ℕ) (x y d : List ℕ) : Type 0 where
  pub modulus : Storable p
  pub room : length x + length y ≤ length d
  pub d_most : length d ≤ 65536

pub record Times (p : ℕ) (x y d d' : List ℕ) : Type 0 where
  pub size : length d' ≡ length d
  pub each : (i : ℕ) → get_or d' i 0 < p
  pub law : (pr : Prime p) → let ρ = reading p pr in row ρ d' ≡ ρ.𝓥.L.ops.mul (row ρ x) (row ρ y)
