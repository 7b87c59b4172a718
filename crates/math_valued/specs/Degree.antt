-- Degrees of series, by their leading coefficients.
--   HasDeg x p q   deg x = p − q
--   Has x n        deg x = n, for a whole n ≥ 0
--   Lt x n         deg x < n; deg x < 0 is `Lt x 0`
--   x ≺ y          deg x < deg y, and y is not 0
--   x ≼ y          deg x ≤ deg y, and y is not 0
--   Leads x c      the leading coefficient of x is c
-- A degree is a difference of two naturals, so that all comparisons are linear arithmetic. The laws are in proofs/Degree.antt.
use Rattle.std.specs.Prelude.{◌≢◌, ℕ}
use Rattle.math_valued.specs.Val.{Valued}

module _ (𝓥 : Valued) where
  open 𝓥 use {K, L, Lead}

  infix 40 ◌≺◌ ◌≼◌
  abbrev pub HasDeg : L.El → ℕ → ℕ → Type 0
  HasDeg x p q = (c : K.El) × (c ≢ K.ops.𝟎) × Lead x p q c

  abbrev pub Has : L.El → ℕ → Type 0
  Has x n = HasDeg x n 0

  abbrev pub Lt : L.El → ℕ → Type 0
  Lt x n = Lead x n 0 K.ops.𝟎

  abbrev pub ◌≺◌ : L.El → L.El → Type 0
  x ≺ y = (p q : ℕ) × HasDeg y p q × Lead x p q K.ops.𝟎

  abbrev pub ◌≼◌ : L.El → L.El → Type 0
  x ≼ y = (p q : ℕ) × HasDeg y p q × (a : K.El) × Lead x p q a

  abbrev pub Leads : L.El → K.El → Type 0
  Leads x c = (p q : ℕ) × (c ≢ K.ops.𝟎) × Lead x p q c
