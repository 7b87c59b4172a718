-- Polynomials inside the series, and divisibility.
--   polys 𝓥         the ring of polynomials, Poly 𝓥 its elements: (x, x has no negative part)
--   Divides d a     a = d · q for a polynomial q
--   IsUnit d        d divides 1: a constant that is not 0
--   Squarefree a    only units have a square that divides a
--   Coprime a b     only units divide both
-- Bezout for lists, Euclid's lemma and "G squarefree, G | a³ give G | a" are in proofs/.
use Rattle.std.specs.Prelude.{◌≡◌}
use Rattle.math_ring.specs.Ring.{CRing}
use Rattle.math_ring.specs.Subring.{subring}
use Rattle.math_valued.specs.Val.{Valued}

module _ (𝓥 : Valued) where
  abbrev pub polys : CRing
  polys = subring 𝓥.L 𝓥.IsPoly 𝓥.closed

  abbrev pub Poly : Type 0
  Poly = polys.El

  abbrev pub Divides : Poly → Poly → Type 0
  Divides d a = (q : Poly) × (a ≡ polys.ops.mul d q)

  abbrev pub IsUnit : Poly → Type 0
  IsUnit d = Divides d polys.ops.𝟏

  abbrev pub Squarefree : Poly → Type 0
  Squarefree a = (d : Poly) → Divides (polys.ops.mul d d) a → IsUnit d

  abbrev pub Coprime : Poly → Poly → Type 0
  Coprime a b = (d : Poly) → Divides d a → Divides d b → IsUnit d
