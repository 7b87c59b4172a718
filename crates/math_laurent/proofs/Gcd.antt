-- Euclid's algorithm with Bezout's coefficients, for polynomials over a field: by recursion on a bound of the second one's degree.
--   Bezout f g   d = u f + v g, f = d a, g = d b
--   bezout       there is one
use mathlib.Core.Path.{◌≡◌, sym, ◌∙◌}
use mathlib.Core.List.{[], ◌∷◌}
use mathlib.Core.Logic.{inl, inr}
use Prim.Native.Nat.{ℕ, zero, suc, ◌≤◌, ◌+◌ as ◌+ⁿ◌}
use native.Mathlib.Omega.{arith}
use Rattle.math_ring.specs.Ring.{CRing}
use Rattle.math_ring.specs.Field.{Field}
use Rattle.math_ring.specs.Subring.{subring}
use Rattle.math_ring.proofs.Laws as r
use Rattle.math_ring.proofs.Solve.{var, one, zer, minus, ◌:+◌, ◌:*◌, hyp, solve, solve_by}
use Rattle.math_laurent.specs.Laurent.{lops}
use Rattle.math_laurent.specs.Degree.{Lead}
use Rattle.math_laurent.specs.Polynomial.{IsPoly}
use Rattle.math_laurent.proofs.Laurent.{laurent}
use Rattle.math_laurent.proofs.Degree.{lead_raise}
use Rattle.math_laurent.proofs.Polynomial.{closed}
use Rattle.math_laurent.proofs.Lists.{poly_bound}
use Rattle.math_laurent.proofs.Division.{Division, divide, View, view}

module _ (K : CRing) (F : Field K) where
  open lops K use {add as ◌+◌, mul as ◌*◌, neg as -◌, 𝟎, 𝟏}

  infixl 60 ◌+◌
  infixl 70 ◌*◌
  infix 80 -◌
  abbrev pub P : CRing
  P = subring (laurent K) (IsPoly K) (closed K)

  pub record Bezout (f g : P.El) : Type 0 where
    pub d : P.El
    pub u : P.El
    pub v : P.El
    pub a : P.El
    pub b : P.El
    pub is_sum : d.0 ≡ u.0 * f.0 + v.0 * g.0
    pub divides_f : f.0 ≡ d.0 * a.0
    pub divides_g : g.0 ≡ d.0 * b.0

  bezout_zero : (f g : P.El) → g.0 ≡ 𝟎 → Bezout f g
  bezout_zero f g z = record {
    d = f;
    u = P.ops.𝟏;
    v = P.ops.𝟎;
    a = P.ops.𝟏;
    b = P.ops.𝟎;
    is_sum = solve (laurent K) (var 0) (one :* var 0 :+ zer :* var 1) tt (f.0 ∷ g.0 ∷ []);
    divides_f = sym ((laurent K).laws.mul-one f.0);
    divides_g = z ∙ sym (r.mul-zero (laurent K) f.0);
  }

  -- from f = q g + s and the coefficients of g and s
  bezout_step : (f g q s : P.El) → f.0 ≡ q.0 * g.0 + s.0 → Bezout g s → Bezout f g
  bezout_step f g q s e h =
      let D = var 0 in let U = var 1 in let Y = var 2 in let A = var 3 in let B = var 4 in let Q = var 5 in let G = var 6 in let S = var 7 in let W = var 8 in
      let ρ = h.d.0 ∷ h.u.0 ∷ h.v.0 ∷ h.a.0 ∷ h.b.0 ∷ q.0 ∷ g.0 ∷ s.0 ∷ f.0 ∷ [] in
      record {
        d = h.d;
        u = h.v;
        v = P.ops.add h.u (P.ops.neg (P.ops.mul h.v q));
        a = P.ops.add (P.ops.mul q h.a) h.b;
        b = h.a;
        is_sum = solve_by (laurent K) D (Y :* W :+ (U :+ minus (Y :* Q)) :* G) (hyp one D (U :* G :+ Y :* S) ∷ hyp (minus Y) W (Q :* G :+ S) ∷ []) tt ρ (h.is_sum, (e, tt));
        divides_f = solve_by (laurent K) W (D :* (Q :* A :+ B)) (hyp one W (Q :* G :+ S) ∷ hyp Q G (D :* A) ∷ hyp one S (D :* B) ∷ []) tt ρ (e, (h.divides_f, (h.divides_g, tt)));
        divides_g = h.divides_f;
      }

  bezout_fuel : (n k : ℕ) → k ≤ n → (f g : P.El) → Lead K g.0 k 0 K.ops.𝟎 → Bezout f g
  bezout_fuel zero k l f g b = go (view K F k g.0 g.1 b)
    where
      go : View K F g.0 k → Bezout f g
      go (inl z) = bezout_zero f g z
      go (inr (m, h, c, hc, lc)) = absurd (omega arith)
  bezout_fuel (suc n) k l f g b = go (view K F k g.0 g.1 b) (bezout_fuel n)
    where
      go : View K F g.0 k → ((j : ℕ) → j ≤ n → (f g : P.El) → Lead K g.0 j 0 K.ops.𝟎 → Bezout f g) → Bezout f g
      go (inl z) ih = bezout_zero f g z
      go (inr (m, h, c, hc, lc)) ih =
          let (u, w) = F.inv c hc in
          let (j, bf) = poly_bound K F f.0 f.1 in
          let z : Division K f.0 g.0 m = divide K g.0 m c u g.1 lc w j f.0 f.1 (lead_raise K (j +ⁿ m) 0 bf (omega arith)) in
          bezout_step f g (z.q, z.q_poly) (z.s, z.s_poly) z.law (ih m (omega arith) g (z.s, z.s_poly) z.small)

  pub bezout : (f g : P.El) → Bezout f g
  bezout f g = let (k, b) = poly_bound K F g.0 g.1 in bezout_fuel k k (omega arith) f g b
