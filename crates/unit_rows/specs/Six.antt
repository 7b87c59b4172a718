-- The rows of an element in one list: `cut at n l` of crate base_lists is the row of n numbers from place `at` on.
use Rattle.std.specs.Prelude.{◌≡◌, List, ℕ, ◌+◌, ◌-◌, ◌<◌, ◌≤◌, length, get_or, replicate}
use Rattle.math_fp.specs.Fp.{Prime}
use Rattle.math_valued.specs.Degree.{Lt}
use Rattle.math_rows.specs.Made.{reading}
use Rattle.math_rows.specs.Row.{row, Size}
pub use Rattle.base_lists.specs.Pieces.{cut}
use Rattle.poly_long.specs.Long.{Storable}

pub record ByAsks (p : ℕ) (x y : List ℕ) : Type 0 where
  pub modulus : Storable p
  pub room : length x + length y ≤ 50

pub record By (p : ℕ) (x y r : List ℕ) : Type 0 where
  pub size : length r ≡ 50
  pub each : (i : ℕ) → get_or r i 0 < p
  pub law : (pr : Prime p) → let ρ = reading p pr in row ρ r ≡ ρ.𝓥.L.ops.mul (row ρ x) (row ρ y)

-- the trimmed list ends in 1
abbrev pub Monic : List ℕ → Type 0
Monic u = (m : ℕ) → Size u m → (0 < m) × (get_or u (m - 1) 0 ≡ 1)

pub record CoordinateAsks (p c n : ℕ) (a b d u e : List ℕ) (at : ℕ) (s : List ℕ) : Type 0 where
  pub modulus : Storable p
  pub a_most : length a ≤ 4096
  pub b_most : length b ≤ 4096
  pub d_most : length d ≤ 4096
  pub u_most : length u ≤ 4096
  pub monic : Monic u
  pub most : c ≤ 4096
  pub upto : n ≤ c
  pub e_room : c + c + c ≤ length e
  pub s_room : at + n ≤ length s

pub record Coordinate (p c n : ℕ) (a b d u e : List ℕ) (at : ℕ) (s s' : List ℕ) : Type 0 where
  pub size : length s' ≡ length s
  pub before : (i : ℕ) → i < at → get_or s' i 0 ≡ get_or s i 0
  pub after : (i : ℕ) → at + n ≤ i → get_or s' i 0 ≡ get_or s i 0
  pub each : (i : ℕ) → i < n → get_or s' (at + i) 0 < p
  pub law : (pr : Prime p) → let ρ = reading p pr in let o = ρ.𝓥.L.ops in (w : ρ.𝓥.L.El) → ρ.𝓥.IsPoly w → Lt ρ.𝓥 w n
      → o.mul (row ρ u) w ≡ o.add (o.add (o.mul (row ρ a) (row ρ (cut 0 c e))) (o.mul (row ρ b) (row ρ (cut c c e)))) (o.mul (row ρ d) (row ρ (cut (c + c) c e)))
      → row ρ (cut at n s') ≡ w

-- E m from E and the record of m. The scratch is blank before; the rows written are those of E' with U E' = E M, if there is one and
-- n coefficients hold it.
pub record TimesAsks (p c n : ℕ) (g h gh b e s : List ℕ) : Type 0 where
  pub modulus : Storable p
  pub g_most : length g ≤ 33
  pub h_most : length h ≤ 33
  pub gh_most : length gh ≤ 33
  pub b_size : length b ≡ 119
  pub monic : Monic (cut 102 17 b)
  pub most : c ≤ 4096
  pub upto : n ≤ c
  pub e_room : c + c + c ≤ length e
  pub s_room : c + c + c ≤ length s
  pub blank : (i : ℕ) → get_or s i 0 ≡ 0

pub record Times (p c n : ℕ) (g h gh b e s s' : List ℕ) : Type 0 where
  pub size : length s' ≡ length s
  pub each : (i : ℕ) → get_or s' i 0 < p
  pub rest : (i : ℕ) → c + c + c ≤ i → get_or s' i 0 ≡ 0
  pub law : (pr : Prime p) → let ρ = reading p pr in let o = ρ.𝓥.L.ops in (x y z : ρ.𝓥.L.El)
      → ρ.𝓥.IsPoly x → ρ.𝓥.IsPoly y → ρ.𝓥.IsPoly z → Lt ρ.𝓥 x n → Lt ρ.𝓥 y n → Lt ρ.𝓥 z n
      → let E0 = row ρ (cut 0 c e) in let E1 = row ρ (cut c c e) in let E2 = row ρ (cut (c + c) c e) in
      let M0 = row ρ (cut 0 17 b) in let M1 = row ρ (cut 17 17 b) in let M2 = row ρ (cut 34 17 b) in let U = row ρ (cut 102 17 b) in
      o.mul U x ≡ o.add (o.mul E0 M0) (o.mul (o.add (o.mul E1 M2) (o.mul E2 M1)) (row ρ gh))
      → o.mul U y ≡ o.add (o.add (o.mul E0 M1) (o.mul E1 M0)) (o.mul (o.mul E2 M2) (row ρ g))
      → o.mul U z ≡ o.add (o.add (o.mul E0 M2) (o.mul E2 M0)) (o.mul (o.mul E1 M1) (row ρ h))
      → (row ρ (cut 0 c s') ≡ x) × (row ρ (cut c c s') ≡ y) × (row ρ (cut (c + c) c s') ≡ z)

-- E m in the place of E
pub record MultiplyByMAsks (p c n : ℕ) (g h gh b rows s : List ℕ) : Type 0 where
  pub times : TimesAsks p c n g h gh b rows s

pub record Turn (p c n : ℕ) (g h gh b rows s rows' s' : List ℕ) : Type 0 where
  pub size : length rows' ≡ length rows
  pub each : (i : ℕ) → i < c + c + c → get_or rows' i 0 < p
  pub rest : (i : ℕ) → c + c + c ≤ i → get_or rows' i 0 ≡ get_or rows i 0
  pub law : (pr : Prime p) → let ρ = reading p pr in let o = ρ.𝓥.L.ops in (x y z : ρ.𝓥.L.El)
      → ρ.𝓥.IsPoly x → ρ.𝓥.IsPoly y → ρ.𝓥.IsPoly z → Lt ρ.𝓥 x n → Lt ρ.𝓥 y n → Lt ρ.𝓥 z n
      → let E0 = row ρ (cut 0 c rows) in let E1 = row ρ (cut c c rows) in let E2 = row ρ (cut (c + c) c rows) in
      let M0 = row ρ (cut 0 17 b) in let M1 = row ρ (cut 17 17 b) in let M2 = row ρ (cut 34 17 b) in let U = row ρ (cut 102 17 b) in
      o.mul U x ≡ o.add (o.mul E0 M0) (o.mul (o.add (o.mul E1 M2) (o.mul E2 M1)) (row ρ gh))
      → o.mul U y ≡ o.add (o.add (o.mul E0 M1) (o.mul E1 M0)) (o.mul (o.mul E2 M2) (row ρ g))
      → o.mul U z ≡ o.add (o.add (o.mul E0 M2) (o.mul E2 M0)) (o.mul (o.mul E1 M1) (row ρ h))
      → (row ρ (cut 0 c rows') ≡ x) × (row ρ (cut c c rows') ≡ y) × (row ρ (cut (c + c) c rows') ≡ z)
  pub blank : s' ≡ replicate (length s) 0
