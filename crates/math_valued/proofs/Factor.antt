-- Squarefree and coprime, by factors that count.
--   of_degree                          a polynomial is 0, or a unit, or not constant
--   free_no_square, no_square_free     squarefree exactly where there is no square factor
--   apart_no_common, no_common_apart   coprime exactly where there is no common factor
use mathlib.Core.Path.{◌≡◌, ap, ◌∙◌}
use mathlib.Core.Logic.{◌⊎◌, inl, inr}
use Prim.Native.Nat.{ℕ, zero, suc}
use native.Mathlib.Omega.{arith}
use Rattle.math_ring.proofs.Laws as r
use Rattle.math_valued.specs.Val.{Valued}
use Rattle.math_valued.specs.Degree.{Has}
use Rattle.math_valued.specs.Polynomial.{polys, Poly, Divides, IsUnit, Squarefree, Coprime}
use Rattle.math_valued.specs.Factor.{Nonconstant, SquareFactor, CommonFactor}
use Rattle.math_valued.proofs.Degree as d
use Rattle.math_valued.proofs.Polynomial.{view, const_unit, unit_const}

module _ (𝓥 : Valued) where
  open (polys 𝓥).ops use {mul as ◌*◌}

  infixl 70 ◌*◌
  pub of_degree : (x : Poly 𝓥) → (x.0 ≡ 𝓥.L.ops.𝟎) ⊎ (IsUnit 𝓥 x ⊎ Nonconstant 𝓥 x)
  of_degree x = elim (view 𝓥 x) [ inl e ↦ inl e | inr (n, h) ↦ inr (by n h) ]
    where
      by : (n : ℕ) → Has 𝓥 x.0 n → IsUnit 𝓥 x ⊎ Nonconstant 𝓥 x
      by zero h = inl (const_unit 𝓥 x h)
      by (suc n) h = inr (n, h)

  not_unit : (x : Poly 𝓥) → Nonconstant 𝓥 x → IsUnit 𝓥 x → ⊥
  not_unit x (n, h) u = let e : suc n ≡ 0 = d.same 𝓥 h (unit_const 𝓥 x u) in omega arith

  -- what divides a polynomial that has a degree is not 0
  not_zero : {n : ℕ} (x a : Poly 𝓥) → Has 𝓥 a.0 n → Divides 𝓥 x a → x.0 ≡ 𝓥.L.ops.𝟎 → ⊥
  not_zero x a h (q, e) z = d.has_not_zero 𝓥 (d.has_eq 𝓥 h (ap (λ t. t.0) e ∙ ap (λ t. 𝓥.L.ops.mul t q.0) z ∙ r.zero_mul' 𝓥.L q.0))

  unit_of : {n : ℕ} (x a : Poly 𝓥) → Has 𝓥 a.0 n → Divides 𝓥 x a → (Nonconstant 𝓥 x → ⊥) → IsUnit 𝓥 x
  unit_of x a h w f = elim (of_degree x) [ inl z ↦ absurd (not_zero x a h w z) | inr (inl u) ↦ u | inr (inr k) ↦ absurd (f k) ]

  pub free_no_square : (a : Poly 𝓥) → Squarefree 𝓥 a → SquareFactor 𝓥 a → ⊥
  free_no_square a f (x, k, w) = not_unit x k (f x w)

  pub no_square_free : {n : ℕ} (a : Poly 𝓥) → Has 𝓥 a.0 n → (SquareFactor 𝓥 a → ⊥) → Squarefree 𝓥 a
  no_square_free a h f x (q, e) = unit_of x a h (x * q, e ∙ (polys 𝓥).laws.mul_assoc x x q) (λ k. f (x, k, (q, e)))

  pub apart_no_common : (a b : Poly 𝓥) → Coprime 𝓥 a b → CommonFactor 𝓥 a b → ⊥
  apart_no_common a b f (x, k, v, w) = not_unit x k (f x v w)

  pub no_common_apart : {n : ℕ} (a b : Poly 𝓥) → Has 𝓥 a.0 n → (CommonFactor 𝓥 a b → ⊥) → Coprime 𝓥 a b
  no_common_apart a b h f x v w = unit_of x a h v (λ k. f (x, k, v, w))
