-- Cube roots of the series of a reading: what their endless coefficients are for.
--   cube_root   a series of degree 3 d whose leading coefficient is c³ has a cube root of degree d with leading coefficient c, unless 3 = 0
-- The instance at a prime is `cube_roots` in specs/Made.antt.
use Rattle.std.specs.Prelude.{◌≡◌, ◌≢◌, ℕ, ◌+◌}
use Rattle.math_rows.specs.Reading.{Reading}

module _ {p : ℕ} (ρ : Reading p) where
  open ρ.𝓥.K.ops use {add as ◌+ᵏ◌, mul as ◌*ᵏ◌, 𝟎 as 0ᵏ, 𝟏 as 1ᵏ}
  open ρ.𝓥.L.ops use {mul as ◌*◌}

  infixl 60 ◌+ᵏ◌
  infixl 70 ◌*◌ ◌*ᵏ◌
  pub record CubeRoots : Type 0 where
    pub cube_root : (x : ρ.𝓥.L.El) (d : ℕ) (c : ρ.𝓥.K.El)
        → c ≢ 0ᵏ
        → 1ᵏ +ᵏ 1ᵏ +ᵏ 1ᵏ ≢ 0ᵏ
        → ρ.𝓥.Lead x (d + d + d) 0 (c *ᵏ c *ᵏ c)
        → (r : ρ.𝓥.L.El) × (r * r * r ≡ x) × ρ.𝓥.Lead r d 0 c
