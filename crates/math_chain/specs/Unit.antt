-- The unit (document 01: "Unit").
--   Fit c v             the three rows of v fit c coefficients
--   Invertible η        η is a unit of the order: it has an inverse in the order
--   UnitOf k B₀ l d E F   B₀ is the basis of the order, from which the chain closes after l steps with degree sum d; E is the product of the
--                       m passed, scaled by the convention k, and F its inverse
-- Theorems: it is determined, E0 has degree d, d is even, and how long the six rows are (proofs/Unit, proofs/Rows); scaled by another convention
-- it is the unit of that one (`unit_rescaled`). That it is the smallest unit, and every other a constant times a power of it: crate
-- math_fundamental.
use Rattle.std.specs.Prelude.{◌≡◌, ℕ}
use Rattle.math_valued.specs.Degree.{Lt}
use Rattle.math_valued.specs.Polynomial.{IsUnit}
use Rattle.math_ideals.specs.Setting.{Setting, P}
use Rattle.math_ideals.specs.Element.{O, sc}
use Rattle.math_ideals.specs.Ideal.{Basis}
use Rattle.math_ideals.specs.Next.{Start}
use Rattle.math_chain.specs.Chain.{Closing, tops, bottoms}
use Rattle.math_chain.specs.Convention.{Convention, Scaled}

module _ (S : Setting) where
  open S use {𝓥}
  open (O S).ops use {mul as ◌⊗◌, 𝟏 as 1ₒ}

  infixl 70 ◌⊗◌
  pub record Fit (c : ℕ) (v : (O S).El) : Type 0 where
    pub a_lt : Lt 𝓥 v.a.0 c
    pub b_lt : Lt 𝓥 v.b.0 c
    pub c_lt : Lt 𝓥 v.c.0 c

  abbrev pub Invertible : (O S).El → Type 0
  Invertible η = (θ : (O S).El) × (η ⊗ θ ≡ 1ₒ)

  -- "The product of the m passed from O to closing, scaled by the named convention, and its inverse F"
  pub record UnitOf (k : Convention) (B₀ : Basis S) (l d : ℕ) (E F : (O S).El) : Type 0 where
    pub start : Start S B₀
    pub B : Basis S
    pub closing : Closing S B₀ l d B
    pub scale : P S
    pub is_a_unit : IsUnit 𝓥 scale
    pub product : sc S (bottoms S closing.chain) ⊗ E ≡ sc S scale ⊗ tops S closing.chain
    pub scaled : Scaled S k E
    pub inverse : E ⊗ F ≡ 1ₒ
