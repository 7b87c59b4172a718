-- The derivative on the series of a reading.
--   D         d/dt: additive, with the product rule, 0 at constants and 1 at t
--   D_poly    the derivative of a polynomial is one
--   D_zero    a polynomial with derivative 0 is the p-th power of a polynomial
-- The instance at a prime is `derivation` in specs/Made.antt.
use Rattle.std.specs.Prelude.{◌≡◌, ℕ}
use Rattle.math_ring.specs.Power.{pow}
use Rattle.math_rows.specs.Reading.{Reading}

pub record Derivation {p : ℕ} (ρ : Reading p) : Type 0 where
  pub D : ρ.𝓥.L.El → ρ.𝓥.L.El
  pub D_add : (x y : ρ.𝓥.L.El) → D (ρ.𝓥.L.ops.add x y) ≡ ρ.𝓥.L.ops.add (D x) (D y)
  pub D_mul : (x y : ρ.𝓥.L.El) → D (ρ.𝓥.L.ops.mul x y) ≡ ρ.𝓥.L.ops.add (ρ.𝓥.L.ops.mul (D x) y) (ρ.𝓥.L.ops.mul x (D y))
  pub D_const : (a : ρ.𝓥.K.El) → D (ρ.𝓥.const a) ≡ ρ.𝓥.L.ops.𝟎
  pub D_t : D ρ.𝓥.t ≡ ρ.𝓥.L.ops.𝟏
  pub D_poly : (x : ρ.𝓥.L.El) → ρ.𝓥.IsPoly x → ρ.𝓥.IsPoly (D x)
  pub D_zero : (x : ρ.𝓥.L.El) → ρ.𝓥.IsPoly x → D x ≡ ρ.𝓥.L.ops.𝟎
      → (y : ρ.𝓥.L.El) × ρ.𝓥.IsPoly y × (x ≡ pow ρ.𝓥.L y p)
