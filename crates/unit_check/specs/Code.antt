-- What the parts of the test ask and answer. Polynomials are `row` of lists (crate math_rows).
--   coordinate       CoordinateGives   u (x y + z w) + v m n is the constant k
--   product_is_one   ProductGives      the product of the elements in the first and in the last three rows is 1
--   is_inverse       IsInverseGives    the same in the order of the field
use Rattle.std.specs.Prelude.{◌≡◌, Bool, List, ℕ, ◌+◌, ◌*◌, ◌<◌, ◌≤◌, length}
use Rattle.base_answers.specs.Decides.{Decides}
use Rattle.base_answers.specs.Limits.{longest}
use Rattle.math_triple.specs.Tri.{mul_t}
use Rattle.math_triple.specs.Order.{triops}
use Rattle.math_fp.specs.Fp.{Prime}
use Rattle.math_rows.specs.Reading.{Reading}
use Rattle.math_rows.specs.Made.{reading}
use Rattle.math_rows.specs.Row.{row}
use Rattle.math_ideals.specs.Element.{O}
use Rattle.field_open.specs.Refusal.{Accepted}
use Rattle.field_series.specs.Keeps.{Kept}
use Rattle.field_series.specs.declared.OpenedField.{OpenedField}
use Rattle.basis_record.specs.Record.{setting}
use Rattle.poly_long.specs.Long.{Storable}
use Rattle.unit_inverse.specs.Inverse.{element}
use Rattle.unit_finish.specs.Rows.{six}

pub record CoordinateAsks (p c : ℕ) (x y z w u m n v : List ℕ) (k : ℕ) : Type 0 where
  pub modulus : Storable p
  pub most : c ≤ longest
  pub x_size : length x ≡ c
  pub y_size : length y ≡ c
  pub z_size : length z ≡ c
  pub size_w : length w ≡ c
  pub size_m : length m ≡ c
  pub size_n : length n ≡ c
  pub u_most : length u ≤ 32
  pub v_most : length v ≤ 32
  pub remainder : k < p

abbrev pub coordinate_of : {p : ℕ} (ρ : Reading p) → List ℕ → List ℕ → List ℕ → List ℕ → List ℕ → List ℕ → List ℕ → List ℕ → ρ.𝓥.L.El
coordinate_of ρ x y z w u m n v =
    let o = ρ.𝓥.L.ops in
    o.add (o.mul (row ρ u) (o.add (o.mul (row ρ x) (row ρ y)) (o.mul (row ρ z) (row ρ w)))) (o.mul (row ρ v) (o.mul (row ρ m) (row ρ n)))

abbrev pub CoordinateGives : ℕ → List ℕ → List ℕ → List ℕ → List ℕ → List ℕ → List ℕ → List ℕ → List ℕ → ℕ → Bool → Type 0
CoordinateGives p x y z w u m n v k r = (pr : Prime p) → let ρ = reading p pr in Decides r (coordinate_of ρ x y z w u m n v ≡ ρ.𝓥.const (ρ.cast k))

pub record ProductAsks (p c : ℕ) (g h gh rows : List ℕ) : Type 0 where
  pub modulus : Storable p
  pub most : c ≤ longest
  pub whole : length rows ≡ 6 * c
  pub g_most : length g ≤ 32
  pub h_most : length h ≤ 32
  pub gh_most : length gh ≤ 32
  pub gh_is : (pr : Prime p) → let ρ = reading p pr in row ρ gh ≡ ρ.𝓥.L.ops.mul (row ρ g) (row ρ h)

abbrev pub ProductGives : ℕ → ℕ → List ℕ → List ℕ → List ℕ → Bool → Type 0
ProductGives p c g h rows r =
    (pr : Prime p) → let ρ = reading p pr in let o = ρ.𝓥.L.ops in
    Decides r (mul_t o (row ρ g) (row ρ h) (element ρ 0 c rows) (element ρ (c + c + c) c rows) ≡ (triops o (row ρ g) (row ρ h)).𝟏)

abbrev pub IsInverseGives : OpenedField → ℕ → List ℕ → Bool → Type 0
IsInverseGives f c rows r =
    (G H : List ℕ) (A : Accepted f.field.p G H) → Kept f G H
    → Decides r ((O (setting A)).ops.mul (six A c 0 rows) (six A c (c + c + c) rows) ≡ (O (setting A)).ops.𝟏)
