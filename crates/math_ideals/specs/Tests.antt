-- A reduced basis in numbers, and the tests of refusal 9.
--   InNumbers U M N     the inequalities of a reduced basis and its scaling, by u = deg U, x = deg X(M) and y = deg Y(N)
--   ReducedInNumbers    the same, and the ideal is reduced
--   NumbersOf B         the first of them, of the seven polynomials of a basis
--   IsClosed B          the lattice has rank 3, and r, w, r m, w m, r n, w n lie in it
--   Tests B             the tests of refusal 9: each is decided on rows
-- The first two are of series, so that they are read of a basis and of the rows of numbers that code holds.
-- Theorems (proofs/Tests): `good_of` and `tests_of`, the tests together are `Good`.
use Rattle.std.specs.Prelude.{◌≢◌, ◌⊎◌, ℕ, ◌≤◌, ◌<◌}
use Rattle.math_triple.specs.Tri.{Tri}
use Rattle.math_triple.specs.Sizes.{XT, YT, ZT}
use Rattle.math_valued.specs.Val.{Valued}
use Rattle.math_valued.specs.Degree.{Has, Lt}
use Rattle.math_valued.specs.Polynomial.{polys}
use Rattle.math_ideals.specs.Setting.{Setting}
use Rattle.math_ideals.specs.Element.{val, times_r, times_w}
use Rattle.math_ideals.specs.Ideal.{Basis, det, Coords}
use Rattle.math_ideals.specs.Basis.{NoFactor}

module _ (𝓥 : Valued) (r w : 𝓥.L.El) where
  open 𝓥 use {K, L, Lead}
  open K.ops use {add as ◌+◌, 𝟏}

  infixl 60 ◌+◌
  pub record InNumbers (U : L.El) (M N : Tri L.El) : Type 0 where
    pub u : ℕ
    pub x : ℕ
    pub y : ℕ
    pub U_lead : Lead U u 0 𝟏
    pub X_M : Lead (XT L.ops r w M) x 0 (𝟏 + 𝟏)
    pub Y_N : Lead (YT L.ops r w N) y 0 𝟏
    pub u≤y : u ≤ y
    pub X_N : Lt 𝓥 (XT L.ops r w N) x
    pub Y_M : Lt 𝓥 (YT L.ops r w M) u
    pub Z_M : Lt 𝓥 (ZT L.ops r w M) u
    pub Z_N : Lt 𝓥 (ZT L.ops r w N) u

  -- "deg X(m) > 0, and deg X(n) > 0 or deg Y(n) > 0"
  pub record ReducedInNumbers (U : L.El) (M N : Tri L.El) : Type 0 where
    pub numbers : InNumbers U M N
    pub u<x : numbers.u < numbers.x
    pub N_large : (numbers.u < numbers.y) ⊎ ((i : ℕ) × (numbers.u < i) × Has 𝓥 (XT L.ops r w N) i)

module _ (S : Setting) where
  open S use {𝓥}

  abbrev pub NumbersOf : Basis S → Type 0
  NumbersOf B = InNumbers 𝓥 S.roots.r S.roots.w B.U.0 (val S B.M) (val S B.N)

  pub record IsClosed (B : Basis S) : Type 0 where
    pub rank : (det S B).0 ≢ 𝓥.L.ops.𝟎
    pub r_one : Coords S B (record { a = (polys 𝓥).ops.𝟎; b = B.U; c = (polys 𝓥).ops.𝟎 })
    pub w_one : Coords S B (record { a = (polys 𝓥).ops.𝟎; b = (polys 𝓥).ops.𝟎; c = B.U })
    pub r_M : Coords S B (times_r S B.M)
    pub w_M : Coords S B (times_w S B.M)
    pub r_N : Coords S B (times_r S B.N)
    pub w_N : Coords S B (times_w S B.N)

  pub record Tests (B : Basis S) : Type 0 where
    pub sizes : ReducedInNumbers 𝓥 S.roots.r S.roots.w B.U.0 (val S B.M) (val S B.N)
    pub seven : NoFactor S B
    pub closed : IsClosed B
