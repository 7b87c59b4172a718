-- The reduction: contracts of its second loop, and of the whole; crate basis_clear has the first.
--   Ends                   two elements with the polynomial parts of X and the length of m's
--   ShearAsks, Shearing, Sheared    what the second loop asks, its state and its end: it keeps m and the degree of Y(n)
--   Reduced F q top lu o   THE REDUCTION: o is a pair with the span of q (by a matrix of polynomials whose determinant is a
--                          constant that is not 0), deg X(n) < deg X(m), deg Y(m) < u' ≤ deg Y(n), and the rows mx, nx of o are the
--                          polynomial parts of X(m), X(n)
-- The lemmas of the turns are in proofs/Shearing.antt.
use Rattle.std.specs.Prelude.{◌≡◌, Bool, true, false, List, ℕ, suc, ◌+◌, ◌-◌, ◌<◌, ◌≤◌}
use Rattle.math_rows.specs.Row.{Size}
use Rattle.basis_parts.specs.Frame.{Frame, Meaning, point, Held, pt, X, Y, Ltμ, Hasμ}
use Rattle.basis_top.specs.Tops.{Topped}
use Rattle.basis_top.specs.declared.Top.{Top}
use Rattle.basis_clear.specs.Clear.{Pair, Rows, Room, Movedμ}

-- two elements with the polynomial parts of X, and the length of m's
pub record Ends : Type 0 where
  pub mb : List ℕ
  pub mc : List ℕ
  pub mx : List ℕ
  pub nb : List ℕ
  pub nc : List ℕ
  pub nx : List ℕ
  pub lx : ℕ

abbrev pub ends : List ℕ → List ℕ → List ℕ → List ℕ → List ℕ → List ℕ → ℕ → Ends
ends mb mc mx nb nc nx lx = record { mb = mb; mc = mc; mx = mx; nb = nb; nc = nc; nx = nx; lx = lx }

-- m and n change places where the answer is yes
abbrev pub ends_if : Bool → Ends → Ends
ends_if true o = ends o.nb o.nc o.nx o.mb o.mc o.mx o.lx
ends_if false o = o

-- ---- the second loop: X(m) has the degree x, Y(n) the length y2, Y(m) at most y1
pub record ShearAsks (F : Frame) (q : Pair) (top : ℕ) : Type 0 where
  pub room : Room F top
  pub hm : Rows F top q.mb q.mc
  pub hn : Rows F top q.nb q.nc
  pub x : ℕ
  pub y1 : ℕ
  pub y2 : ℕ
  pub by2 : y2 ≤ top
  pub gap : y1 + top < suc x + y2
  pub ym : (μ : Meaning F) → Ltμ μ (Y μ (pt μ q.mb q.mc)) y1
  pub yn : (μ : Meaning F) → Hasμ μ (Y μ (pt μ q.nb q.nc)) (y2 - 1)
  pub some : Meaning F
  pub xm : Hasμ some (X some (pt some q.mb q.mc)) x
  pub bm : x < top
  pub xn : Ltμ some (X some (pt some q.nb q.nc)) top

-- x1 is the top of X(m), and x2 that of X(n) from there on
pub record Shearing (F : Frame) (q : Pair) (top : ℕ) (nb nc : List ℕ) (x1 x2 : Top) : Type 0 where
  pub room : Room F top
  pub hm : Rows F top q.mb q.mc
  pub hn : Rows F top nb nc
  pub tx1 : Topped F false q.mb q.mc (x1.n - 1) top x1
  pub tx2 : Topped F false nb nc (x1.n - 1) top x2
  pub y1 : ℕ
  pub y2 : ℕ
  pub by2 : y2 ≤ top
  pub gap : y1 + top < x1.n + y2
  pub ym : (μ : Meaning F) → Ltμ μ (Y μ (pt μ q.mb q.mc)) y1
  pub yn : (μ : Meaning F) → Hasμ μ (Y μ (pt μ nb nc)) (y2 - 1)
  pub was : (μ : Meaning F) → Hasμ μ (Y μ (pt μ q.nb q.nc)) (y2 - 1)
  pub some : Meaning F
  pub moved : (μ : Meaning F) → Movedμ μ q q.mb q.mc nb nc

pub record Sheared (F : Frame) (q : Pair) (top : ℕ) (o : Ends) : Type 0 where
  pub same_b : o.mb ≡ q.mb
  pub same_c : o.mc ≡ q.mc
  pub hm : Held F false top (point o.mb o.mc o.mx)
  pub hn : Held F false top (point o.nb o.nc o.nx)
  pub x2 : ℕ
  pub sx1 : Size o.mx o.lx
  pub sx2 : Size o.nx x2
  pub less : x2 < o.lx
  pub kept : (μ : Meaning F) (d : ℕ) → Hasμ μ (Y μ (pt μ q.nb q.nc)) d → Hasμ μ (Y μ (pt μ o.nb o.nc)) d
  pub moved : (μ : Meaning F) → Movedμ μ q o.mb o.mc o.nb o.nc

-- ---- both
pub record Reduced (F : Frame) (q : Pair) (top lu : ℕ) (o : Ends) : Type 0 where
  pub hm : Held F false top (point o.mb o.mc o.mx)
  pub hn : Held F false top (point o.nb o.nc o.nx)
  -- deg X(n) < deg X(m)
  pub x2 : ℕ
  pub sx1 : Size o.mx o.lx
  pub sx2 : Size o.nx x2
  pub x_less : x2 < o.lx
  -- deg Y(m) < u' ≤ deg Y(n), and deg X(m) + deg Y(n) = S' + u'
  pub y : ℕ
  pub y_low : (μ : Meaning F) → Ltμ μ (Y μ (pt μ o.mb o.mc)) (lu - 1)
  pub y_has : (μ : Meaning F) → Hasμ μ (Y μ (pt μ o.nb o.nc)) y
  pub y_high : lu ≤ suc y
  pub y_fits : y < top
  pub all : o.lx + suc y ≡ top + lu
  pub moved : (μ : Meaning F) → Movedμ μ q o.mb o.mc o.nb o.nc
