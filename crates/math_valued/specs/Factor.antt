-- Factors that count.
--   Nonconstant d      the degree of d is 1 or more
--   SquareFactor a     some non-constant d has d² | a
--   CommonFactor a b   some non-constant d divides a and b
-- For a polynomial that is not 0, to have no square factor is `Squarefree`, and to have no common factor is `Coprime`: proofs/Factor.antt.
use Rattle.std.specs.Prelude.{ℕ, suc}
use Rattle.math_valued.specs.Val.{Valued}
use Rattle.math_valued.specs.Degree.{Has}
use Rattle.math_valued.specs.Polynomial.{polys, Poly, Divides}

module _ (𝓥 : Valued) where
  abbrev pub Nonconstant : Poly 𝓥 → Type 0
  Nonconstant d = (n : ℕ) × Has 𝓥 d.0 (suc n)

  abbrev pub SquareFactor : Poly 𝓥 → Type 0
  SquareFactor a = (d : Poly 𝓥) × Nonconstant d × Divides 𝓥 ((polys 𝓥).ops.mul d d) a

  abbrev pub CommonFactor : Poly 𝓥 → Poly 𝓥 → Type 0
  CommonFactor a b = (d : Poly 𝓥) × Nonconstant d × Divides 𝓥 d a × Divides 𝓥 d b
