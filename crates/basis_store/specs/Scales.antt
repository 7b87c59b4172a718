-- The three factors that scale a basis.
--   Scaling p a b c u m n   u is 1/a, m is 2/b and n is 1/c mod p
use Rattle.std.specs.Prelude.{◌≡◌, ℕ, ◌<◌}
use Rattle.math_fp.specs.Fp.{Prime}
use Rattle.num_mod.specs.Residue.{IsModulus}
use Rattle.math_rows.specs.Made.{reading}
use Rattle.basis_store.specs.declared.Factors.{Factors}

pub record FactorsOfAsks (p a b c : ℕ) : Type 0 where
  pub modulus : IsModulus p
  pub prime : Prime p
  pub a_pos : 0 < a
  pub b_pos : 0 < b
  pub c_pos : 0 < c
  pub a_low : a < p
  pub b_low : b < p
  pub c_low : c < p

pub record Scaling (p a b c : ℕ) (k : Factors) : Type 0 where
  pub u_low : k.u < p
  pub m_low : k.m < p
  pub n_low : k.n < p
  pub u_law : (pr : Prime p) → let ρ = reading p pr in ρ.𝓥.K.ops.mul (ρ.cast k.u) (ρ.cast a) ≡ ρ.𝓥.K.ops.𝟏
  pub m_law : (pr : Prime p) → let ρ = reading p pr in ρ.𝓥.K.ops.mul (ρ.cast k.m) (ρ.cast b) ≡ ρ.𝓥.K.ops.add ρ.𝓥.K.ops.𝟏 ρ.𝓥.K.ops.𝟏
  pub n_law : (pr : Prime p) → let ρ = reading p pr in ρ.𝓥.K.ops.mul (ρ.cast k.n) (ρ.cast c) ≡ ρ.𝓥.K.ops.𝟏
