-- The norm of an element, from numbers for G, H and its three coordinates.
--   ThreeAsks p a b c    a prime of 16 bits, and three numbers below it
--   NormAsks             five such numbers
--   NormIs p g h a b c r   r is their norm in the field of p elements
--   for_monic  ForMonic    the inverse of the last coefficient of the first of three rows
--   for_norm   ForNorm     the cube root of the inverse of the norm's value at t = 0
use Rattle.std.specs.Prelude.{◌≡◌, List, ℕ, ◌+◌, ◌-◌, ◌%◌, ◌<◌, ◌≤◌, length, get_or}
use Rattle.math_triple.specs.Tri.{norm_t}
use Rattle.math_fp.specs.Fp.{Prime}
use Rattle.math_rows.specs.Made.{reading}
use Rattle.math_rows.specs.Row.{Size}
use Rattle.base_lists.specs.Pieces.{between}
use Rattle.num_power.specs.Powers.{Inverse, CubeRoot}
use Rattle.poly_long.specs.Long.{Storable}

pub record ThreeAsks (p a b c : ℕ) : Type 0 where
  pub modulus : Storable p
  pub a_below : a < p
  pub b_below : b < p
  pub c_below : c < p

pub record NormAsks (p g h a b c : ℕ) : Type 0 where
  pub three : 3 ≤ p
  pub modulus : Storable p
  pub g_below : g < p
  pub h_below : h < p
  pub a_below : a < p
  pub b_below : b < p
  pub c_below : c < p

pub record NormIs (p g h a b c r : ℕ) : Type 0 where
  pub below : r < p
  pub law : (pr : Prime p) → let ρ = reading p pr in
      ρ.cast r ≡ norm_t ρ.𝓥.K.ops (ρ.cast g) (ρ.cast h) record { a = ρ.cast a; b = ρ.cast b; c = ρ.cast c }

pub record ForMonicAsks (p c : ℕ) (rows : List ℕ) : Type 0 where
  pub modulus : Storable p
  pub inside : c ≤ length rows
  pub each : (i : ℕ) → get_or rows i 0 < p
  pub some : (n : ℕ) → Size (between 0 c rows) n → 0 < n

pub record ForMonic (p c : ℕ) (rows : List ℕ) (r : ℕ) : Type 0 where
  pub n : ℕ
  pub size : Size (between 0 c rows) n
  pub inverse : Inverse p (get_or rows (n - 1) 0) r

pub record ForNormAsks (p g h c : ℕ) (rows : List ℕ) : Type 0 where
  pub modulus : Storable p
  pub kind : p % 3 ≡ 2
  pub three : 3 ≤ p
  pub inside : c + c < length rows
  pub each : (i : ℕ) → get_or rows i 0 < p
  pub g_below : g < p
  pub h_below : h < p
  pub some : (v : ℕ) → NormIs p g h (get_or rows 0 0) (get_or rows c 0) (get_or rows (c + c) 0) v → 0 < v

pub record ForNorm (p g h c : ℕ) (rows : List ℕ) (r : ℕ) : Type 0 where
  pub v : ℕ
  pub is_norm : NormIs p g h (get_or rows 0 0) (get_or rows c 0) (get_or rows (c + c) 0) v
  pub u : ℕ
  pub inverse : Inverse p v u
  pub root : CubeRoot p u r
