-- What is settled only up to constants that are not 0: the reduction before it is scaled, and generators.
--   Scaled ρ m n m' n'   m' = a m and n' = d n
--   Alike σ o o'         x, y and the degree of what was cut are those of o'; the pairs and the denominator are v times those of o'
-- The theorems are `reduced_unique` (proofs/Reduction.antt) and `divided_unique` (proofs/Generators.antt).
use Rattle.std.specs.Prelude.{◌≡◌, ◌≢◌, List, ℕ}
use Rattle.math_valued.specs.Polynomial.{polys, IsUnit}
use Rattle.math_rows.specs.Reading.{Reading}
use Rattle.math_turns.specs.Points.{Pt}
use Rattle.math_ideals.specs.Setting.{P}
use Rattle.field_open.specs.Refusal.{Accepted}
use Rattle.basis_record.specs.Record.{setting, poly_of}
use Rattle.step_divide.specs.Generated.{Generators}

module _ {p : ℕ} (ρ : Reading p) where
  open ρ use {𝓥}
  open 𝓥 use {K, L, const}
  open L.ops use {mul as ◌*◌}

  infixl 70 ◌*◌
  pub record Scaled (m n m' n' : Pt L.El) : Type 0 where
    pub a : K.El
    pub d : K.El
    pub a_unit : a ≢ K.ops.𝟎
    pub d_unit : d ≢ K.ops.𝟎
    pub m_b : m'.b ≡ const a * m.b
    pub m_c : m'.c ≡ const a * m.c
    pub n_b : n'.b ≡ const d * n.b
    pub n_c : n'.c ≡ const d * n.c

pub record Alike {p : ℕ} {G H : List ℕ} (σ : Accepted p G H) (o o' : Generators) : Type 0 where
  pub x : o.x ≡ o'.x
  pub y : o.y ≡ o'.y
  pub cut : o.cut ≡ o'.cut
  pub v : P (setting σ)
  pub v_unit : IsUnit (setting σ).𝓥 v
  pub mb : poly_of σ o.mb ≡ (polys (setting σ).𝓥).ops.mul v (poly_of σ o'.mb)
  pub mc : poly_of σ o.mc ≡ (polys (setting σ).𝓥).ops.mul v (poly_of σ o'.mc)
  pub nb : poly_of σ o.nb ≡ (polys (setting σ).𝓥).ops.mul v (poly_of σ o'.nb)
  pub nc : poly_of σ o.nc ≡ (polys (setting σ).𝓥).ops.mul v (poly_of σ o'.nc)
  pub u : poly_of σ o.u ≡ (polys (setting σ).𝓥).ops.mul v (poly_of σ o'.u)
