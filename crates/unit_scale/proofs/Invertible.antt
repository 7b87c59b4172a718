-- A number from 1 to p - 1 is a constant that has an inverse.
use mathlib.Core.Path.{◌≡◌}
use mathlib.Core.List.{List}
use Prim.Native.Nat.{ℕ, ◌<◌}
use native.Mathlib.Omega.{arith}
use Rattle.math_valued.specs.Polynomial.{IsUnit}
use Rattle.math_valued.proofs.Polynomial.{const_unit}
use Rattle.math_rows.specs.Made.{reading}
use Rattle.field_open.specs.Refusal.{Accepted}
use Rattle.basis_record.specs.Record.{setting}
use Rattle.unit_scale.specs.Scale.{constant}

pub constant_unit : {p : ℕ} {G H : List ℕ} (A : Accepted p G H) (s : ℕ) → s < p → 0 < s → IsUnit (setting A).𝓥 (constant A s)
constant_unit {p} A s u v =
    let ρ = reading p A.prime in
    const_unit ρ.𝓥 (constant A s) (ρ.cast s, (λ z. let e : s ≡ 0 = ρ.cast_small s u z in omega arith), ρ.𝓥.const_lead (ρ.cast s))
