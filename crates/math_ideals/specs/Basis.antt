-- Reduced bases (document 01: "A reduced basis", "Scaling", "The ideal is reduced exactly when ..").
--   ReducedBasis   the inequalities of the sizes of m and n
--   NoFactor       no factor divides all seven
--   Scaled         the scaling that makes a basis the only one of its ideal
--   Reduced        the ideal is reduced
--   Good           the scaled reduced basis of a reduced ideal: what refusal 9 is about
-- deg X(m) < deg X(n) is written X(M) ≺ X(N), and deg X(m) < 0 is X(M) ≺ U: no fraction is needed.
-- Theorems: one ideal has one scaled reduced basis (proofs/Unique); degrees (proofs/Degrees); reduced by degrees is the same as
-- "1 is a minimum" (proofs/Reduced); the tests of refusal 9 (specs/Tests, proofs/Tests).
use Rattle.std.specs.Prelude.{◌⊎◌}
use Rattle.math_valued.specs.Degree.{◌≺◌, ◌≼◌, Leads}
use Rattle.math_valued.specs.Polynomial.{Divides, IsUnit}
use Rattle.math_ideals.specs.Setting.{Setting, P}
use Rattle.math_ideals.specs.Element.{X, Y, Z}
use Rattle.math_ideals.specs.Ideal.{Basis, Ideal}

module _ (S : Setting) where
  open S use {𝓥}
  open 𝓥 use {K}

  -- "deg X(m) > deg X(n); deg Y(m) < 0 ≤ deg Y(n); deg Z(m) < 0 and deg Z(n) < 0"
  pub record ReducedBasis (B : Basis S) : Type 0 where
    pub X_N : ◌≺◌ 𝓥 (X S B.N) (X S B.M)
    pub Y_M : ◌≺◌ 𝓥 (Y S B.M) B.U.0
    pub Y_N : ◌≼◌ 𝓥 B.U.0 (Y S B.N)
    pub Z_M : ◌≺◌ 𝓥 (Z S B.M) B.U.0
    pub Z_N : ◌≺◌ 𝓥 (Z S B.N) B.U.0

  -- "no factor divides all seven"
  abbrev pub NoFactor : Basis S → Type 0
  NoFactor B = (d : P S) → Divides 𝓥 d B.U → Divides 𝓥 d B.M.a → Divides 𝓥 d B.M.b → Divides 𝓥 d B.M.c →
      Divides 𝓥 d B.N.a → Divides 𝓥 d B.N.b → Divides 𝓥 d B.N.c → IsUnit 𝓥 d

  -- "X(m) has leading coefficient 2, Y(n) has 1 .. U is monic and no factor divides all seven" (for a monic U, X(m) leads with what
  -- X(M) leads with)
  pub record Scaled (B : Basis S) : Type 0 where
    pub X_M : Leads 𝓥 (X S B.M) (K.ops.add K.ops.𝟏 K.ops.𝟏)
    pub Y_N : Leads 𝓥 (Y S B.N) K.ops.𝟏
    pub monic : Leads 𝓥 B.U.0 K.ops.𝟏
    pub seven : NoFactor B

  -- "The ideal is reduced exactly when deg X(m) > 0, and deg X(n) > 0 or deg Y(n) > 0"
  pub record Reduced (B : Basis S) : Type 0 where
    pub X_M : ◌≺◌ 𝓥 B.U.0 (X S B.M)
    pub N_large : (◌≺◌ 𝓥 B.U.0 (X S B.N)) ⊎ (◌≺◌ 𝓥 B.U.0 (Y S B.N))

  pub record Good (B : Basis S) : Type 0 where
    pub ideal : Ideal S B
    pub basis : ReducedBasis B
    pub scaled : Scaled B
    pub reduced : Reduced B
