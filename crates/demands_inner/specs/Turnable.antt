-- Where the product of a turn is there: `turn` of crate unit_rows settles its rows only then.
--   Turnable   E' with U E' = E M, in polynomials of degree below n
use Rattle.std.specs.Prelude.{◌≡◌, List, ℕ, ◌+◌}
use Rattle.math_fp.specs.Fp.{Prime}
use Rattle.math_valued.specs.Degree.{Lt}
use Rattle.math_rows.specs.Made.{reading}
use Rattle.math_rows.specs.Row.{row}
use Rattle.unit_rows.specs.Six.{cut}

module _ {p : ℕ} (pr : Prime p) where
  open reading p pr use {𝓥}
  open 𝓥 use {L, IsPoly}
  open L.ops use {add as ◌⊕◌, mul as ◌⊗◌}

  infixl 60 ◌⊕◌
  infixl 70 ◌⊗◌
  abbrev pub at : ℕ → ℕ → List ℕ → L.El
  at i m l = row (reading p pr) (cut i m l)

  pub record Turnable (c n : ℕ) (g h gh b rows : List ℕ) : Type 0 where
    pub x : L.El
    pub y : L.El
    pub z : L.El
    pub x_poly : IsPoly x
    pub y_poly : IsPoly y
    pub z_poly : IsPoly z
    pub x_lt : Lt 𝓥 x n
    pub y_lt : Lt 𝓥 y n
    pub z_lt : Lt 𝓥 z n
    pub x_eq : at 102 17 b ⊗ x ≡ at 0 c rows ⊗ at 0 17 b ⊕ (at c c rows ⊗ at 34 17 b ⊕ at (c + c) c rows ⊗ at 17 17 b) ⊗ row (reading p pr) gh
    pub y_eq : at 102 17 b ⊗ y ≡ at 0 c rows ⊗ at 17 17 b ⊕ at c c rows ⊗ at 0 17 b ⊕ at (c + c) c rows ⊗ at 34 17 b ⊗ row (reading p pr) g
    pub z_eq : at 102 17 b ⊗ z ≡ at 0 c rows ⊗ at 34 17 b ⊕ at (c + c) c rows ⊗ at 0 17 b ⊕ at c c rows ⊗ at 17 17 b ⊗ row (reading p pr) h
