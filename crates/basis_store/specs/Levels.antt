-- Row 0 of an element b r + c w of a lattice, so that its size Z = 2a − X lies below the denominator u.
--   Leveled p u k x top a   2a = x − k modulo u, and 2a − x lies below u; a ends before top. With x the polynomial part of X, and with
--                           (x − k)/2 the first coordinate of any element of the lattice over b r + c w, that is row 0
use Rattle.std.specs.Prelude.{◌≡◌, List, ℕ, ◌-◌, ◌%◌, ◌<◌, ◌≤◌, get_or}
use Rattle.math_fp.specs.Fp.{Prime}
use Rattle.math_valued.specs.Degree.{Has, Lt}
use Rattle.math_rows.specs.Made.{reading}
use Rattle.math_rows.specs.Row.{Row, Size, row}
use Rattle.num_mod.specs.Prepared.{Prepared}
use Rattle.num_mod.specs.declared.Modulus.{Modulus}
use Rattle.basis_parts.specs.Frame.{Short}

-- u, of length n, leads with 1
pub record Monic (p : ℕ) (u : List ℕ) (n : ℕ) : Type 0 where
  pub is_row : Row p u
  pub size : Size u n
  pub pos : 0 < n
  pub lead : get_or u (n - 1) 0 ≡ 1

pub record RowZeroAsks (q : Modulus) (u : List ℕ) (lu : ℕ) (k : List ℕ) (n : ℕ) (x : List ℕ) (top : ℕ) : Type 0 where
  pub modulus : Prepared q
  pub prime : Prime q.p
  pub odd : q.p % 2 ≡ 1
  pub monic : Monic q.p u lu
  pub hk : Row q.p k
  pub sk : Size k n
  pub hx : Short q.p x top
  pub low : lu ≤ top
  pub fits : top ≤ 32

pub record Leveled (p : ℕ) (u k x : List ℕ) (top : ℕ) (a : List ℕ) : Type 0 where
  pub short : Short p a top
  pub law : (pr : Prime p) → let ρ = reading p pr in let o = ρ.𝓥.L.ops in
      (j : ρ.𝓥.L.El) × ρ.𝓥.IsPoly j × (o.add (o.mul (o.add o.𝟏 o.𝟏) (row ρ a)) (o.add (row ρ k) (o.neg (row ρ x))) ≡ o.mul (row ρ u) j)
  pub low : (pr : Prime p) (n : ℕ) → let ρ = reading p pr in let o = ρ.𝓥.L.ops in
      Has ρ.𝓥 (row ρ u) n → Lt ρ.𝓥 (o.add (o.mul (o.add o.𝟏 o.𝟏) (row ρ a)) (o.neg (row ρ x))) n
