-- The scaled basis that the reduction of two elements over a denominator gives, as a record.
--   BasisAsks F q top d x1 y1   two elements within the bounds of the reduction, the denominator d, and the polynomials x1, y1: the element
--                             of the lattice over b r + c w has the first coordinate −(b x1 + c y1) modulo d
--   ReducedBasisAsks          the same for code: with the lengths, what a quick remainder needs
--   M, N, U of a record B     its rows, as series
--   BasedAt                   a reduced basis in numbers (crate math_ideals), scaled; M and N span what q does; row 0 is as above
--   Based                     the same at each meaning of the series
--   Left                      what the lent rows hold in the end: M1, M2, N1, N2, U of the record, and x1 and y1 doubled
--   FinishedAsks, Finished    from a pair o that the reduction made: Based for every q that it is the reduction of, Left, and M0, N0 in the rows of X(m), X(n)
use Rattle.std.specs.Prelude.{◌≡◌, ◌≢◌, List, ℕ, suc, ◌%◌, ◌<◌, ◌≤◌, length, get_or}
use Rattle.math_triple.specs.Tri.{Tri}
use Rattle.math_triple.specs.Sizes.{size_z}
use Rattle.math_rows.specs.Row.{Size}
use Rattle.poly_cross.specs.Cross.{Scaled}
use Rattle.math_ideals.specs.Tests.{InNumbers}
use Rattle.math_turns.specs.Points.{Pt, Moved}
use Rattle.basis_record.specs.Record.{part}
use Rattle.basis_parts.specs.Frame.{Frame, Meaning, Short, rd, Ser, rowμ, pt}
use Rattle.basis_clear.specs.Clear.{Pair, pair, ClearYAsks}
use Rattle.basis_reduce.specs.Reduction.{Ends, Reduced}
use Rattle.basis_store.specs.Place.{off, padded}

pub record BasisAsks (F : Frame) (q : Pair) (top : ℕ) (d x1 y1 : List ℕ) : Type 0 where
  pub small : F.m.p ≤ 65535
  pub odd : F.m.p % 2 ≡ 1
  pub fits : top ≤ 17
  pub hd : Short F.m.p d 17
  pub h1 : Short F.m.p x1 (suc F.dr)
  pub h2 : Short F.m.p y1 (suc F.dw)
  pub u : ℕ
  pub d_size : Size d (suc u)
  pub clear : ClearYAsks F q top (suc u)

-- the same with the lengths of d, x1 and y1
pub record ReducedBasisAsks (F : Frame) (q : Pair) (top : ℕ) (d : List ℕ) (lu : ℕ) (x1 : List ℕ) (n1 : ℕ) (y1 : List ℕ) (n2 : ℕ) : Type 0 where
  pub inp : BasisAsks F q top d x1 y1
  pub size : Size d lu
  pub size_1 : Size x1 n1
  pub size_2 : Size y1 n2

module _ {F : Frame} (μ : Meaning F) where
  -- 2a − b r − c w
  abbrev pub Z : Ser μ → Ser μ → Ser μ → Ser μ
  Z = size_z (rd μ).𝓥.L.ops μ.r μ.w

  abbrev pub at : ℕ → List ℕ → Ser μ
  at i B = rowμ μ (part i B)

  -- the pairs of M and of N
  abbrev pub Mpt : List ℕ → Pt (Ser μ)
  Mpt B = record { b = at 1 B; c = at 2 B }

  abbrev pub Npt : List ℕ → Pt (Ser μ)
  Npt B = record { b = at 4 B; c = at 5 B }

  -- all of M and of N
  abbrev pub Mtri : List ℕ → Tri (Ser μ)
  Mtri B = record { a = at 0 B; b = at 1 B; c = at 2 B }

  abbrev pub Ntri : List ℕ → Tri (Ser μ)
  Ntri B = record { a = at 3 B; b = at 4 B; c = at 5 B }

pub record BasedAt {F : Frame} (μ : Meaning F) (q : Pair) (d x1 y1 B : List ℕ) : Type 0 where
  pub numbers : InNumbers (rd μ).𝓥 μ.r μ.w (at μ 6 B) (Mtri μ B) (Ntri μ B)
  -- row 0
  pub k_m : Ser μ
  pub k_n : Ser μ
  pub k_m_poly : (rd μ).𝓥.IsPoly k_m
  pub k_n_poly : (rd μ).𝓥.IsPoly k_n
  pub M_a : off (rd μ).𝓥.L.ops (rowμ μ x1) (rowμ μ y1) (at μ 0 B) (at μ 1 B) (at μ 2 B) ≡ (rd μ).𝓥.L.ops.mul (at μ 6 B) k_m
  pub N_a : off (rd μ).𝓥.L.ops (rowμ μ x1) (rowμ μ y1) (at μ 3 B) (at μ 4 B) (at μ 5 B) ≡ (rd μ).𝓥.L.ops.mul (at μ 6 B) k_n
  -- the denominator, and the span
  pub ν : (rd μ).𝓥.K.El
  pub ν_unit : ν ≢ (rd μ).𝓥.K.ops.𝟎
  pub U_eq : at μ 6 B ≡ (rd μ).𝓥.L.ops.mul ((rd μ).𝓥.const ν) (rowμ μ d)
  pub moved : Moved (rd μ) (pt μ q.mb q.mc) (pt μ q.nb q.nc) (Mpt μ B) (Npt μ B)

pub record Based (F : Frame) (q : Pair) (d x1 y1 B : List ℕ) : Type 0 where
  pub size : length B ≡ 119
  pub each : (k : ℕ) → get_or B k 0 < F.m.p
  pub meant : (μ : Meaning F) → BasedAt μ q d x1 y1 B

-- ---- what the lent rows hold in the end
pub record Left (p : ℕ) (x1 y1 B : List ℕ) (o' : Pair) (d' x1' y1' : List ℕ) : Type 0 where
  pub rows : o' ≡ pair (padded 1 B) (padded 2 B) (padded 4 B) (padded 5 B)
  pub u : d' ≡ padded 6 B
  pub twice_x : Scaled p 2 x1 x1'
  pub twice_y : Scaled p 2 y1 y1'

-- ---- from a reduced pair o on
pub record FinishedAsks (F : Frame) (top : ℕ) (o : Ends) (d : List ℕ) (lu : ℕ) (x1 : List ℕ) (n1 : ℕ) (y1 : List ℕ) (n2 : ℕ) : Type 0 where
  pub q : Pair
  pub by : ReducedBasisAsks F q top d lu x1 n1 y1 n2
  pub from : Reduced F q top lu o

pub record Finished (F : Frame) (top : ℕ) (o : Ends) (d : List ℕ) (lu : ℕ) (x1 y1 : List ℕ) (o' : Pair)
    (mx' nx' d' x1' y1' B : List ℕ) : Type 0 where
  pub each : {q : Pair} → BasisAsks F q top d x1 y1 → Size d lu → Reduced F q top lu o → Based F q d x1 y1 B
  pub left : Left F.m.p x1 y1 B o' d' x1' y1'
  pub left_mx : mx' ≡ padded 0 B
  pub left_nx : nx' ≡ padded 3 B
