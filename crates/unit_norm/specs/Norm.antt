-- The norm of E = A + Br + Cw, the rows of E as lists.
--   NonZeroConstant ρ z      the series z is a constant other than 0
--   norm p pr G H A B C      the norm A³ + B³GH² + C³G²H − 3ABCGH
use Rattle.std.specs.Prelude.{◌≡◌, ◌≢◌, List, ℕ}
use Rattle.math_ring.specs.Ring.{Ops, CRing}
use Rattle.math_triple.specs.Tri.{norm_t}
use Rattle.math_fp.specs.Fp.{Prime}
use Rattle.math_valued.specs.Val.{Valued}
use Rattle.math_rows.specs.Reading.{Reading}
use Rattle.math_rows.specs.Made.{reading}
use Rattle.math_rows.specs.Row.{row}

abbrev pub NonZeroConstant : {p : ℕ} (ρ : Reading p) → ρ.𝓥.L.El → Type 0
NonZeroConstant ρ z = (c : ρ.𝓥.K.El) × (c ≢ ρ.𝓥.K.ops.𝟎) × (z ≡ ρ.𝓥.const c)

abbrev pub norm : (p : ℕ) (pr : Prime p) → List ℕ → List ℕ → List ℕ → List ℕ → List ℕ → (reading p pr).𝓥.L.El
norm p pr G H A B C =
    let ρ = reading p pr in
    norm_t ρ.𝓥.L.ops (row ρ G) (row ρ H) record { a = row ρ A; b = row ρ B; c = row ρ C }
