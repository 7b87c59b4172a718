-- An element s (b r + c w) over u, put into three rows of the record from row i on.
--   ElementAsks     rows b, c, x for the element and the polynomial part of its X; the denominator u; polynomials x1, y1 that settle row 0;
--                 numbers: n1, n2 and top, before which x1, y1 and b, c, x end, and the length lu of u
--   StoreElementAsks       the same, and the record is 0 from row i on
--   PlacedAt      b₀ and c₀ are s b and s c; 2 a₀ is −(s b x1 + s c y1) modulo u, and 2 a₀ less s x lies below u
--   padded i B    row i of the record as a row of 32
--   Placed        the three rows of B' are such, for a prime p, the rest of it is that of B, and x', b', c' are its rows i, i + 1, i + 2, padded
--   Filled        the record of m and n, scaled by the factors of k, and of u; o' holds the rows of m and n afterwards
use Rattle.std.specs.Prelude.{◌≡◌, ◌⊎◌, List, ◌++◌, ℕ, ◌+◌, ◌*◌, ◌%◌, ◌<◌, ◌≤◌, length, get_or, replicate}
use Rattle.math_ring.specs.Ring.{Ops}
use Rattle.math_fp.specs.Fp.{Prime}
use Rattle.math_valued.specs.Degree.{Has, Lt}
use Rattle.math_rows.specs.Reading.{Reading}
use Rattle.math_rows.specs.Made.{reading}
use Rattle.math_rows.specs.Row.{row}
use Rattle.num_mod.specs.Prepared.{Prepared}
use Rattle.num_mod.specs.declared.Modulus.{Modulus}
use Rattle.basis_record.specs.Record.{part}
use Rattle.basis_parts.specs.Frame.{Short}
use Rattle.basis_clear.specs.Clear.{Pair}
use Rattle.basis_store.specs.Levels.{Monic}
use Rattle.basis_record.specs.Store.{Stored}
use Rattle.basis_store.specs.declared.Factors.{Factors}

-- a + b x + c y
abbrev pub off : {A : Type 0} → Ops A → A → A → A → A → A → A
off o x y a b c = o.add a (o.add (o.mul b x) (o.mul c y))

pub record ElementAsks (q : Modulus) (top s : ℕ) (b c x x1 : List ℕ) (n1 : ℕ) (y1 : List ℕ) (n2 : ℕ) (u : List ℕ) (lu : ℕ) : Type 0 where
  pub modulus : Prepared q
  pub prime : Prime q.p
  pub small : q.p ≤ 65535
  pub odd : q.p % 2 ≡ 1
  pub hs : s < q.p
  pub fits : top ≤ 17
  -- lengths, and room for the products
  pub lb : ℕ
  pub lc : ℕ
  pub hb : Short q.p b lb
  pub hc : Short q.p c lc
  pub hx : Short q.p x top
  pub low_b : lb ≤ top
  pub low_c : lc ≤ top
  pub h1 : Short q.p x1 n1
  pub h2 : Short q.p y1 n2
  pub fits_1 : n1 ≤ 32
  pub fits_2 : n2 ≤ 32
  pub room_b : lb + n1 ≤ 33
  pub room_c : lc + n2 ≤ 33
  pub monic : Monic q.p u lu
  pub low_u : lu ≤ top

pub record StoreElementAsks (q : Modulus) (i top s : ℕ) (b c x x1 : List ℕ) (n1 : ℕ) (y1 : List ℕ) (n2 : ℕ) (u : List ℕ) (lu : ℕ) (B : List ℕ) : Type 0 where
  pub inp : ElementAsks q top s b c x x1 n1 y1 n2 u lu
  pub at : i + 2 < 7
  pub size : length B ≡ 119
  pub blank : (k : ℕ) → 17 * i ≤ k → get_or B k 0 ≡ 0

pub record PlacedAt {p : ℕ} (ρ : Reading p) (s : ℕ) (b c x x1 y1 u a₀ b₀ c₀ : List ℕ) : Type 0 where
  pub is_b : row ρ b₀ ≡ ρ.𝓥.L.ops.mul (ρ.𝓥.const (ρ.cast s)) (row ρ b)
  pub is_c : row ρ c₀ ≡ ρ.𝓥.L.ops.mul (ρ.𝓥.const (ρ.cast s)) (row ρ c)
  pub k : ρ.𝓥.L.El
  pub k_poly : ρ.𝓥.IsPoly k
  pub framed : let o = ρ.𝓥.L.ops in
      off o (row ρ x1) (row ρ y1) (o.mul (o.add o.𝟏 o.𝟏) (row ρ a₀)) (row ρ b₀) (row ρ c₀) ≡ o.mul (row ρ u) k
  pub low : (n : ℕ) → let o = ρ.𝓥.L.ops in
      Has ρ.𝓥 (row ρ u) n → Lt ρ.𝓥 (o.add (o.mul (o.add o.𝟏 o.𝟏) (row ρ a₀)) (o.neg (o.mul (ρ.𝓥.const (ρ.cast s)) (row ρ x)))) n

abbrev pub padded : ℕ → List ℕ → List ℕ
padded i B = part i B ++ replicate 15 0

pub record Placed (p i s : ℕ) (b c x x1 y1 u B b' c' x' B' : List ℕ) : Type 0 where
  pub size : length B' ≡ 119
  pub each : ((k : ℕ) → get_or B k 0 < p) → (k : ℕ) → get_or B' k 0 < p
  pub there : (k : ℕ) → (k < 17 * i) ⊎ (17 * (i + 3) ≤ k) → get_or B' k 0 ≡ get_or B k 0
  pub at : (pr : Prime p) → PlacedAt (reading p pr) s b c x x1 y1 u (part i B') (part (i + 1) B') (part (i + 2) B')
  pub left_b : b' ≡ padded (i + 1) B'
  pub left_c : c' ≡ padded (i + 2) B'
  pub left_x : x' ≡ padded i B'

-- ---- the whole record
pub record FilledAsks (q : Modulus) (top : ℕ) (k : Factors) (mb mc mx nb nc nx x1 : List ℕ) (n1 : ℕ) (y1 : List ℕ) (n2 : ℕ) (u : List ℕ) (lu : ℕ) : Type 0 where
  pub m : ElementAsks q top k.m mb mc mx x1 n1 y1 n2 u lu
  pub n : ElementAsks q top k.n nb nc nx x1 n1 y1 n2 u lu

pub record Filled (p : ℕ) (k : Factors) (mb mc mx nb nc nx x1 y1 u : List ℕ) (o' : Pair) (mx' nx' B : List ℕ) : Type 0 where
  pub B₁ : List ℕ
  pub B₂ : List ℕ
  pub at_m : Placed p 0 k.m mb mc mx x1 y1 u (replicate 119 0) o'.mb o'.mc mx' B₁
  pub at_n : Placed p 3 k.n nb nc nx x1 y1 u B₁ o'.nb o'.nc nx' B₂
  pub at_u : Stored B₂ 6 u B
