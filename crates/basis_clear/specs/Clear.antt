-- The first half of the reduction: contracts of a turn, and of the loop that cancels leading terms of Y.
--   Pair                   two elements
--   CanceledAsks, CanceledGives    s a − c t^k b cancels the leading term of a size of a, where the sizes before and after lie below top
--   ClearYAsks F q top lu     two elements whose sizes X, Y lie below top = S' + 1, X(m) + Y(n) and X(n) + Y(m) at most S' + u' and the
--                          determinant of degree S' + u'; lu = u' + 1. All numbers are lengths: degrees + 1, and 0 below degree 0
--   Clearing               the state of the loop
--   Cleared                its end: Y(m) below u', Y(n) not, and X(m), Y(n) make up all of the determinant
-- The lemmas of the turns are in proofs/: Cancel, Clearing.
use Rattle.std.specs.Prelude.{◌≡◌, Bool, true, false, List, ℕ, suc, ◌+◌, ◌-◌, ◌<◌, ◌≤◌}
use Rattle.math_turns.specs.Points.{Turned, Moved}
use Rattle.basis_parts.specs.Frame.{Frame, Fine, Meaning, Short, rd, pt, X, Y, D, Ltμ, Hasμ, shift}
use Rattle.basis_top.specs.Tops.{Topped}
use Rattle.basis_top.specs.declared.Top.{Top}

-- two elements, by their rows
pub record Pair : Type 0 where
  pub mb : List ℕ
  pub mc : List ℕ
  pub nb : List ℕ
  pub nc : List ℕ

abbrev pub pair : List ℕ → List ℕ → List ℕ → List ℕ → Pair
pair mb mc nb nc = record { mb = mb; mc = mc; nb = nb; nc = nc }

-- m and n change places where the answer is yes
abbrev pub swap_if : Bool → Pair → Pair
swap_if true q = pair q.nb q.nc q.mb q.mc
swap_if false q = q

-- the rows of an element below top
pub record Rows (F : Frame) (top : ℕ) (b c : List ℕ) : Type 0 where
  pub hb : Short F.m.p b (top - F.dr)
  pub hc : Short F.m.p c (top - F.dw)

-- the numbers that every loop keeps
pub record Room (F : Frame) (top : ℕ) : Type 0 where
  pub fine : Fine F
  pub fits : top ≤ 32
  pub low_r : F.dr ≤ top
  pub low_w : F.dw ≤ top

abbrev pub Movedμ : {F : Frame} (μ : Meaning F) → Pair → List ℕ → List ℕ → List ℕ → List ℕ → Type 0
Movedμ μ q mb mc nb nc = Moved (rd μ) (pt μ q.mb q.mc) (pt μ q.nb q.nc) (pt μ mb mc) (pt μ nb nc)

-- ---- one turn
pub record RoomAt {F : Frame} (μ : Meaning F) (ab ac bb bc : List ℕ) (k top : ℕ) : Type 0 where
  pub xa : Ltμ μ (X μ (pt μ ab ac)) top
  pub ya : Ltμ μ (Y μ (pt μ ab ac)) top
  pub xb : Ltμ μ (shift μ k (X μ (pt μ bb bc))) top
  pub yb : Ltμ μ (shift μ k (Y μ (pt μ bb bc))) top

-- a and b have lengths past low, and b is no longer than a
pub record CanceledAsks (F : Frame) (e : Bool) (ab ac : List ℕ) (a : Top) (bb bc : List ℕ) (b : Top) (top low : ℕ) : Type 0 where
  pub room : Room F top
  pub ha : Rows F top ab ac
  pub hb : Rows F top bb bc
  pub ta : Topped F e ab ac low top a
  pub tb : Topped F e bb bc low top b
  pub past : low < b.n
  pub over : b.n ≤ a.n
  pub some : Meaning F
  pub at : RoomAt some ab ac bb bc (a.n - b.n) top

pub record CanceledGives (F : Frame) (e : Bool) (ab ac : List ℕ) (a : Top) (bb bc : List ℕ) (b : Top) (top low : ℕ) (nb nc : List ℕ) (t : Top) : Type 0 where
  pub rows : Rows F top nb nc
  pub is : Topped F e nb nc low (a.n - 1) t
  pub each : (μ : Meaning F) → Turned (rd μ) ((rd μ).cast b.c) ((rd μ).cast a.c) (a.n - b.n) (pt μ ab ac) (pt μ bb bc) (pt μ nb nc)

-- ---- the first loop
pub record ClearYAsks (F : Frame) (q : Pair) (top lu : ℕ) : Type 0 where
  pub room : Room F top
  pub hm : Rows F top q.mb q.mc
  pub hn : Rows F top q.nb q.nc
  pub s : ℕ
  pub u : ℕ
  pub top_is : top ≡ suc s
  pub lu_is : lu ≡ suc u
  -- lengths of X(m), X(n), Y(m), Y(n)
  pub x1 : ℕ
  pub x2 : ℕ
  pub v1 : ℕ
  pub v2 : ℕ
  pub bx1 : x1 ≤ top
  pub bx2 : x2 ≤ top
  pub bv1 : v1 ≤ top
  pub bv2 : v2 ≤ top
  pub k1 : x1 + v2 ≤ s + u + 2
  pub k2 : x2 + v1 ≤ s + u + 2
  pub some : Meaning F
  pub lx1 : Ltμ some (X some (pt some q.mb q.mc)) x1
  pub lx2 : Ltμ some (X some (pt some q.nb q.nc)) x2
  pub ly1 : Ltμ some (Y some (pt some q.mb q.mc)) v1
  pub ly2 : Ltμ some (Y some (pt some q.nb q.nc)) v2
  pub det : Hasμ some (D some (pt some q.mb q.mc) (pt some q.nb q.nc)) (s + u)

-- y1 and y2 are the tops of Y(m), Y(n) past u'; x1 and x2 bound the lengths of X
pub record Clearing (F : Frame) (q : Pair) (top lu : ℕ) (o : Pair) (y1 y2 : Top) : Type 0 where
  pub room : Room F top
  pub hm : Rows F top o.mb o.mc
  pub hn : Rows F top o.nb o.nc
  pub s : ℕ
  pub u : ℕ
  pub top_is : top ≡ suc s
  pub lu_is : lu ≡ suc u
  pub ty1 : Topped F true o.mb o.mc (lu - 1) top y1
  pub ty2 : Topped F true o.nb o.nc (lu - 1) top y2
  pub x1 : ℕ
  pub x2 : ℕ
  pub bx1 : x1 ≤ top
  pub bx2 : x2 ≤ top
  pub k1 : x1 + y2.n ≤ s + u + 2
  pub k2 : x2 + y1.n ≤ s + u + 2
  pub some : Meaning F
  pub lx1 : Ltμ some (X some (pt some o.mb o.mc)) x1
  pub lx2 : Ltμ some (X some (pt some o.nb o.nc)) x2
  pub det : Hasμ some (D some (pt some q.mb q.mc) (pt some q.nb q.nc)) (s + u)
  pub moved : (μ : Meaning F) → Movedμ μ q o.mb o.mc o.nb o.nc

pub record Cleared (F : Frame) (q : Pair) (top lu : ℕ) (o : Pair) : Type 0 where
  pub y1 : Top
  pub y2 : Top
  pub state : Clearing F q top lu o y1 y2
  pub low : y1.n < lu
  pub high : lu ≤ y2.n
  pub all : state.x1 + y2.n ≡ state.s + state.u + 2
