-- The first coefficients of a series.
--   fall n f         f₀ t^(n − 1) + f₁ t^(n − 2) + .. + f_(n − 1)
--   Begins n f d z   z, a series of degree at most d, begins f₀ t^d + f₁ t^(d − 1) + .. + f_(n − 1) t^(d − n + 1)
-- The coefficient n of the product of two series is `conv` of crate base_lists.
-- In proofs/First.antt: products and differences of series that begin so, that a series has one beginning, and that a row begins with its
-- coefficients, read from the top.
use Rattle.std.specs.Prelude.{ℕ, zero, suc}
use Rattle.math_ring.specs.Ring.{CRing}
use Rattle.math_valued.specs.Degree.{Lt}
use Rattle.math_rows.specs.Reading.{Reading}
use Rattle.math_rows.specs.Row.{tpow}

module _ {p : ℕ} (ρ : Reading p) where
  open ρ use {𝓥}
  open 𝓥 use {K, L, const, t}
  open L.ops use {add as ◌+◌, mul as ◌*◌, neg as -◌, 𝟎}

  infixl 60 ◌+◌
  infixl 70 ◌*◌
  infix 80 -◌
  unfoldable pub fall : ℕ → (ℕ → K.El) → L.El
  fall zero f = 𝟎
  fall (suc n) f = t * fall n f + const (f n)

  abbrev pub Begins : ℕ → (ℕ → K.El) → ℕ → L.El → Type 0
  Begins n f d z = Lt 𝓥 (tpow ρ n * z + - (tpow ρ (suc d) * fall n f)) (suc d)
