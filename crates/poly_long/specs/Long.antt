-- What the functions on long polynomials ask and hand out. A list of stored numbers stands for the polynomial `row` (crate math_rows),
-- whatever its length. p is a prime below 2^16 (`Storable`).
--   Low ρ n z l                  l holds the n lowest coefficients of the polynomial z
--   scale      Scaled            s d
--   clear, copy, to_stored       zeros; the same numbers
use Rattle.std.specs.Prelude.{◌≡◌, List, ℕ, ◌*◌, ◌%◌, ◌<◌, length, get_or}
use Rattle.math_fp.specs.Fp.{Prime}
use Rattle.math_rows.specs.Reading.{Reading}
use Rattle.math_rows.specs.Made.{reading}
use Rattle.math_rows.specs.Row.{row, tpow}

-- z = l + t^n e
pub record Low {p : ℕ} (ρ : Reading p) (n : ℕ) (z : ρ.𝓥.L.El) (l : List ℕ) : Type 0 where
  pub size : length l ≡ n
  pub rest : ρ.𝓥.L.El
  pub is_poly : ρ.𝓥.IsPoly rest
  pub law : z ≡ ρ.𝓥.L.ops.add (row ρ l) (ρ.𝓥.L.ops.mul (tpow ρ n) rest)

-- a prime whose remainders are stored in 16 bits
pub record Storable (p : ℕ) : Type 0 where
  pub prime : Prime p
  pub small : p < 65536

pub record ScaleAsks (p s : ℕ) : Type 0 where
  pub modulus : Storable p
  pub below : s < p

pub record Scaled (p s : ℕ) (d d' : List ℕ) : Type 0 where
  pub size : length d' ≡ length d
  pub at : (i : ℕ) → i < length d → get_or d' i 0 ≡ (get_or d i 0 * s) % p
  pub each : (i : ℕ) → get_or d' i 0 < p
  pub law : (pr : Prime p) → let ρ = reading p pr in row ρ d' ≡ ρ.𝓥.L.ops.mul (ρ.𝓥.const (ρ.cast s)) (row ρ d)

pub record Stored (x : List ℕ) : Type 0 where
  pub size : length x ≡ 32
  pub each : (i : ℕ) → get_or x i 0 < 65536
