-- What a greatest common divisor decides.
--   gcd_greatest      what divides both divides it
--   coprime_unit      where it is a unit, the two are coprime
--   common_nonconst   where it is not constant, it is a common factor
--   zero_square zero_common   t² divides 0, t divides 0 and 0
use mathlib.Core.Path.{◌≡◌, sym, ap, ◌∙◌}
use mathlib.Core.List.{[], ◌∷◌}
use Rattle.math_ring.proofs.Laws as r
use Rattle.math_ring.proofs.Solve.{var, ◌:+◌, ◌:*◌, hyp, solve_by}
use Rattle.math_valued.specs.Val.{Valued}
use Rattle.math_valued.specs.Polynomial.{polys, Poly, Divides, IsUnit, Coprime}
use Rattle.math_valued.specs.Factor.{Nonconstant, SquareFactor, CommonFactor}
use Rattle.math_valued.specs.Gcd.{IsGcd}
use Rattle.math_valued.proofs.Gcds.{divides_trans}
use Rattle.math_valued.proofs.Polynomial.{P_path}

module _ (𝓥 : Valued) where
  open (polys 𝓥).ops use {add as ◌+◌, mul as ◌*◌}

  infixl 60 ◌+◌
  infixl 70 ◌*◌
  pub gcd_greatest : {a b g : Poly 𝓥} (d : Poly 𝓥) → IsGcd 𝓥 a b g → Divides 𝓥 d a → Divides 𝓥 d b → Divides 𝓥 d g
  gcd_greatest {a} {b} {g} d h (q, e) (r, f) =
      let U = var 0 in let W = var 1 in let A = var 2 in let B = var 3 in let E = var 4 in let Q = var 5 in let S = var 6 in
      (h.u * q + h.v * r, h.comb ∙ solve_by (polys 𝓥) (U :* A :+ W :* B) (E :* (U :* Q :+ W :* S)) (hyp U A (E :* Q) ∷ hyp W B (E :* S) ∷ []) tt (h.u ∷ h.v ∷ a ∷ b ∷ d ∷ q ∷ r ∷ []) (e, (f, tt)))

  pub coprime_unit : {a b g : Poly 𝓥} → IsGcd 𝓥 a b g → IsUnit 𝓥 g → Coprime 𝓥 a b
  coprime_unit {g = g} h u d x y = divides_trans 𝓥 d g (polys 𝓥).ops.𝟏 (gcd_greatest d h x y) u

  pub common_nonconst : {a b g : Poly 𝓥} → IsGcd 𝓥 a b g → Nonconstant 𝓥 g → CommonFactor 𝓥 a b
  common_nonconst {g = g} h n = (g, n, h.left, h.right)

  -- ---- the zero polynomial
  t_nonconst : Nonconstant 𝓥 (𝓥.t, 𝓥.t_poly)
  t_nonconst = (0, (𝓥.K.ops.𝟏, 𝓥.one≢zero, 𝓥.t_lead))

  divides_zero : (d a : Poly 𝓥) → a.0 ≡ 𝓥.L.ops.𝟎 → Divides 𝓥 d a
  divides_zero d a e = ((polys 𝓥).ops.𝟎, P_path 𝓥 {a = a} {b = (polys 𝓥).ops.𝟎} e ∙ sym (r.mul-zero (polys 𝓥) d))

  pub zero_square : (a : Poly 𝓥) → a.0 ≡ 𝓥.L.ops.𝟎 → SquareFactor 𝓥 a
  zero_square a e = ((𝓥.t, 𝓥.t_poly), t_nonconst, divides_zero ((𝓥.t, 𝓥.t_poly) * (𝓥.t, 𝓥.t_poly)) a e)

  pub zero_common : (a b : Poly 𝓥) → a.0 ≡ 𝓥.L.ops.𝟎 → b.0 ≡ 𝓥.L.ops.𝟎 → CommonFactor 𝓥 a b
  zero_common a b e f = ((𝓥.t, 𝓥.t_poly), t_nonconst, divides_zero (𝓥.t, 𝓥.t_poly) a e, divides_zero (𝓥.t, 𝓥.t_poly) b f)

  -- what 0 divides is 0
  pub zero_divides : (d a : Poly 𝓥) → d.0 ≡ 𝓥.L.ops.𝟎 → Divides 𝓥 d a → a.0 ≡ 𝓥.L.ops.𝟎
  zero_divides d a z (q, e) = ap (λ x. x.0) e ∙ ap (λ x. 𝓥.L.ops.mul x q.0) z ∙ r.zero_mul' 𝓥.L q.0
