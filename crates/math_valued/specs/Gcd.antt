-- A greatest common divisor of two polynomials.
--   IsGcd a b d   d divides a and b, and is a sum of multiples of them; so what divides both divides d
-- What it decides is in proofs/Coprime.antt.
use Rattle.std.specs.Prelude.{◌≡◌}
use Rattle.math_valued.specs.Val.{Valued}
use Rattle.math_valued.specs.Polynomial.{polys, Poly, Divides}

pub record IsGcd (𝓥 : Valued) (a b d : Poly 𝓥) : Type 0 where
  pub left : Divides 𝓥 d a
  pub right : Divides 𝓥 d b
  pub u : Poly 𝓥
  pub v : Poly 𝓥
  pub comb : d ≡ (polys 𝓥).ops.add ((polys 𝓥).ops.mul u a) ((polys 𝓥).ops.mul v b)
