-- What the tests of lengths and leading coefficients ask and decide.
--   Ends l n          a row ends before n
--   Narrow            rows b end before kb, rows c before kc
--   Units             the leading coefficients
--   Shape             the inequalities of lengths (crate basis_bounds) and the leading coefficients, of rows
-- A statement settles the answer of its test: `decides_unique`, in crate base_answers. What the shape of polynomial parts says of a basis: `shaped_of`, in
-- crate basis_accept.
use Rattle.std.specs.Prelude.{◌≡◌, List, ℕ, ◌-◌, ◌≤◌, length, get_or}
use Rattle.math_rows.specs.Row.{Size}
use Rattle.basis_bounds.specs.Bounds.{Ordered}

pub record RowsFitAsks (m1 m2 n1 n2 : List ℕ) : Type 0 where
  pub h1 : length m1 ≡ 32
  pub h2 : length m2 ≡ 32
  pub k1 : length n1 ≡ 32
  pub k2 : length n2 ≡ 32

abbrev pub Ends : List ℕ → ℕ → Type 0
Ends l n = (i : ℕ) → n ≤ i → get_or l i 0 ≡ 0

pub record Narrow (kb kc : ℕ) (m1 m2 n1 n2 : List ℕ) : Type 0 where
  pub h1 : Ends m1 kb
  pub h2 : Ends m2 kc
  pub k1 : Ends n1 kb
  pub k2 : Ends n2 kc

-- "X(m) has leading coefficient 2, Y(n) has 1 .. U is monic"
pub record Units (u x y : ℕ) : Type 0 where
  pub U_one : u ≡ 1
  pub X_two : x ≡ 2
  pub Y_one : y ≡ 1

pub record ShapeAsks (u mx my nx ny zm zn : List ℕ) : Type 0 where
  pub hu : length u ≡ 32
  pub hmx : length mx ≡ 32
  pub hmy : length my ≡ 32
  pub hnx : length nx ≡ 32
  pub hny : length ny ≡ 32
  pub hzm : length zm ≡ 32
  pub hzn : length zn ≡ 32

pub record Shape (u mx my nx ny zm zn : List ℕ) : Type 0 where
  pub lu : ℕ
  pub lx : ℕ
  pub ly : ℕ
  pub ln : ℕ
  pub lm : ℕ
  pub a : ℕ
  pub b : ℕ
  pub su : Size u lu
  pub sx : Size mx lx
  pub sy : Size ny ly
  pub sn : Size nx ln
  pub sm : Size my lm
  pub sa : Size zm a
  pub sb : Size zn b
  pub ordered : Ordered lu lx ly ln lm a b
  pub units : Units (get_or u (lu - 1) 0) (get_or mx (lx - 1) 0) (get_or ny (ly - 1) 0)
