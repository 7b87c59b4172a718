-- The test at which a walk stops.
--   OnePart p B r   r says whether the row U of the record B is the polynomial 1
--   IsClosedAsks p B    119 numbers below p
-- The laws are in proofs/One.antt.
use Rattle.std.specs.Prelude.{◌≡◌, ◌≢◌, Bool, true, false, List, ℕ, ◌<◌, length, get_or}
use Rattle.math_fp.specs.Fp.{Prime}
use Rattle.math_rows.specs.Made.{reading}
use Rattle.math_rows.specs.Row.{row}
use Rattle.basis_record.specs.Record.{part}

pub record IsClosedAsks (p : ℕ) (B : List ℕ) : Type 0 where
  pub size : length B ≡ 119
  pub each : (k : ℕ) → get_or B k 0 < p

abbrev pub OnePart : ℕ → List ℕ → Bool → Type 0
OnePart p B true = (pr : Prime p) → row (reading p pr) (part 6 B) ≡ (reading p pr).𝓥.L.ops.𝟏
OnePart p B false = (pr : Prime p) → row (reading p pr) (part 6 B) ≢ (reading p pr).𝓥.L.ops.𝟏
