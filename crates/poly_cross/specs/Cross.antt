-- What the functions that turn a row in place ask and hand out; p is prime.
--   scale_in   ScaleInGives: c x in place of x, which is Short: 0 from n on, before and after
--   cross_in   CrossInGives: s x − c t^k y in place of x, Short too
use Rattle.std.specs.Prelude.{◌≡◌, List, ℕ, ◌<◌, ◌≤◌}
use Rattle.math_fp.specs.Fp.{Prime}
use Rattle.math_rows.specs.Made.{reading}
use Rattle.math_rows.specs.Row.{Row, row, shift_at, comb}
use Rattle.num_mod.specs.Prepared.{Prepared}
use Rattle.num_mod.specs.declared.Modulus.{Modulus}
use Rattle.poly_rows.specs.Leaf.{Short}

-- ---- c x
pub record Scaled (p c : ℕ) (x r : List ℕ) : Type 0 where
  pub is_row : Row p r
  pub law : (pr : Prime p) → let ρ = reading p pr in row ρ r ≡ ρ.𝓥.L.ops.mul (ρ.𝓥.const (ρ.cast c)) (row ρ x)

pub record ScaleInAsks (q : Modulus) (c : ℕ) (x : List ℕ) (n : ℕ) : Type 0 where
  pub modulus : Prepared q
  pub prime : Prime q.p
  pub hc : c < q.p
  pub hx : Short q.p x n
  pub fits : n ≤ 32

pub record ScaleInGives (p c : ℕ) (x : List ℕ) (n : ℕ) (r : List ℕ) : Type 0 where
  pub short : Short p r n
  pub scaled : Scaled p c x r

-- ---- s x − c t^k y
pub record Crossed (p s : ℕ) (x : List ℕ) (c k : ℕ) (y r : List ℕ) : Type 0 where
  pub is_row : Row p r
  pub law : (pr : Prime p) → let ρ = reading p pr in row ρ r ≡ comb ρ (ρ.cast s) (ρ.cast c) k (row ρ x) (row ρ y)

pub record CrossInAsks (q : Modulus) (s : ℕ) (x : List ℕ) (c k : ℕ) (y : List ℕ) (n : ℕ) : Type 0 where
  pub modulus : Prepared q
  pub prime : Prime q.p
  pub hs : s < q.p
  pub hx : Short q.p x n
  pub hc : c ≤ q.p
  pub hy : Row q.p y
  pub fits : n ≤ 32
  pub low : k ≤ 32
  pub above : (i : ℕ) → n ≤ i → shift_at y k i ≡ 0

pub record CrossInGives (p s : ℕ) (x : List ℕ) (c k : ℕ) (y : List ℕ) (n : ℕ) (r : List ℕ) : Type 0 where
  pub short : Short p r n
  pub crossed : Crossed p s x c k y r
