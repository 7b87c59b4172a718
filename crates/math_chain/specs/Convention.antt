-- How a unit is scaled (request E6). A unit times a constant other than 0 is a unit; a convention says which of them is meant.
--   Convention       the two conventions, and `number`, their numbers 1 and 2
--   Scaled k E       E is scaled by the convention k: E0 is monic, or the norm is 1
--   PositiveUnit E F   E is a unit of the order of positive degree, and F its inverse
--   OneScaling k E   there is exactly one constant s other than 0 for which s E is scaled by k
-- Theorems, over both conventions (proofs/Scaling): a unit of positive degree has one scaling (`one_scaling`), where each constant has a
-- cube root, `Cubes`; two scalings of one unit are equal (`scale_unique`).
use Rattle.std.specs.Prelude.{◌≡◌, ℕ, ◌<◌}
use Rattle.math_ring.specs.Ring.{CRing}
use Rattle.math_valued.specs.Degree.{Has, Leads}
use Rattle.math_valued.specs.Polynomial.{polys, IsUnit}
use Rattle.math_ideals.specs.Setting.{Setting, P}
use Rattle.math_ideals.specs.Element.{O, sc, ev, norm}

pub data Convention : Type 0 where
  e0_monic : Convention
  norm_one : Convention

-- the number by which a caller names it
abbrev pub number : Convention → ℕ
number e0_monic = 1
number norm_one = 2

abbrev pub Cubes : CRing → Type 0
Cubes K = (u : K.El) → (v : K.El) × (K.ops.mul (K.ops.mul v v) v ≡ u)

module _ (S : Setting) where
  open S use {𝓥}
  open (O S).ops use {mul as ◌⊗◌, 𝟏 as 1ₒ}

  infixl 70 ◌⊗◌
  -- "convention 1 with E0 monic, convention 2 with norm 1"
  abbrev pub Scaled : Convention → (O S).El → Type 0
  Scaled e0_monic E = Leads 𝓥 E.a.0 𝓥.K.ops.𝟏
  Scaled norm_one E = norm S E ≡ (polys 𝓥).ops.𝟏

  pub record PositiveUnit (E F : (O S).El) : Type 0 where
    pub inverse : E ⊗ F ≡ 1ₒ
    pub degree : ℕ
    pub has : Has 𝓥 (ev S E) degree
    pub positive : 0 < degree

  pub record OneScaling (k : Convention) (E : (O S).El) : Type 0 where
    pub by : P S
    pub is_a_unit : IsUnit 𝓥 by
    pub scaled : Scaled k (sc S by ⊗ E)
    pub only : (s : P S) → IsUnit 𝓥 s → Scaled k (sc S s ⊗ E) → s ≡ by
