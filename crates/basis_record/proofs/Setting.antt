-- The field's two series are the only ones.
--   field_roots_unique   any two series with a degree that obey r² = H w and r w = G H are r and w
use mathlib.Core.Path.{◌≡◌}
use mathlib.Core.List.{List}
use Prim.Native.Nat.{ℕ}
use Rattle.math_fp.specs.Fp.{Prime}
use Rattle.math_valued.specs.Degree.{Has}
use Rattle.math_ideals.specs.Setting.{at}
use Rattle.math_ideals.proofs.Roots.{roots_unique}
use Rattle.math_rows.specs.Made.{reading}
use Rattle.math_rows.specs.Row.{row}
use Rattle.field_open.specs.Refusal.{Accepted}
use Rattle.basis_record.specs.Setting.{roots}

module _ {p : ℕ} {G H : List ℕ} (A : Accepted p G H) (pr : Prime p) where
  open reading p pr use {𝓥}
  open 𝓥.L.ops use {mul as ◌*◌}

  infixl 70 ◌*◌
  pub field_roots_unique : (n : ℕ) (r w : 𝓥.L.El) → Has 𝓥 r n
      → r * r ≡ row (reading p pr) H * w → r * w ≡ row (reading p pr) G * row (reading p pr) H → (r ≡ (roots A pr).r) × (w ≡ (roots A pr).w)
  field_roots_unique n r w = roots_unique (at (roots A pr)) {n = n} r w
