-- Squarefree polynomials, by the derivative: gcd(G, G') is a unit exactly where no square of a non-constant polynomial divides G. The
-- derivative 0 of a non-constant G is no exception: there G itself is the gcd, and a p-th power.
--   squarefree_unit   a unit gcd(G, G') leaves no square factor
--   square_factor     a gcd g that is not constant gives one: where g' = 0, g = f^p and f² divides G; else, with e = gcd(g, g'), the
--                     polynomial k = g / e is not constant and k² divides G
-- No irreducible polynomial is named.
use mathlib.Core.Path.{◌≡◌, sym, ap, ◌∙◌}
use mathlib.Core.Logic.{◌⊎◌, inl, inr}
use mathlib.Core.List.{[], ◌∷◌}
use Prim.Native.Nat.{ℕ, zero, suc, ◌<◌}
use Prim.Native.Nat as N
use native.Mathlib.Omega.{arith}
use Rattle.math_ring.proofs.Laws as r
use Rattle.math_ring.specs.Ring.{CRing}
use Rattle.math_ring.specs.Power.{pow}
use Rattle.math_ring.proofs.Power.{pow-suc}
use Rattle.math_ring.proofs.Solve.{var, one, minus, ◌:+◌, ◌:*◌, hyp, solve, solve_by}
use Rattle.math_valued.specs.Degree.{Has}
use Rattle.math_valued.specs.Polynomial.{polys, Poly, IsUnit, Squarefree}
use Rattle.math_valued.specs.Factor.{Nonconstant, SquareFactor}
use Rattle.math_valued.specs.Gcd.{IsGcd}
use Rattle.math_valued.proofs.Degree.{has_not_zero, has_eq, has_mul, has_up, has_one, has_move, same, above}
use Rattle.math_valued.proofs.Polynomial.{P_path, view, degree}
use Rattle.math_valued.proofs.Divide.{p_cancel}
use Rattle.math_valued.proofs.Coprime.{coprime_unit}
use Rattle.math_rows.specs.Reading.{Reading}
use Rattle.math_rows.specs.Derivation.{Derivation}
use Rattle.math_rows.proofs.Derivative.{D_none, D_lt}

module _ {p : ℕ} (ρ : Reading p) (δ : Derivation ρ) where
  open ρ use {𝓥}
  open 𝓥 use {L}
  open (polys ρ.𝓥).ops use {add as ◌+◌, mul as ◌*◌, neg as -◌, 𝟎, 𝟏}

  infixl 60 ◌+◌
  infixl 70 ◌*◌
  infix 80 -◌
  abbrev R : CRing
  R = polys ρ.𝓥

  -- the derivative on polynomials
  abbrev pub ∂ : Poly ρ.𝓥 → Poly ρ.𝓥
  ∂ x = (δ.D x.0, δ.D_poly x.0 x.1)

  ∂-mul : (x y : Poly 𝓥) → ∂ (x * y) ≡ ∂ x * y + x * ∂ y
  ∂-mul x y = P_path 𝓥 (δ.D_mul x.0 y.0)

  pub squarefree_unit : (G g : Poly 𝓥) → IsGcd 𝓥 G (∂ G) g → IsUnit 𝓥 g → Squarefree 𝓥 G
  squarefree_unit G g h u d (q, e) =
      coprime_unit 𝓥 h u d (d * q, e ∙ R.laws.mul_assoc d d q) (
        d * ∂ q + (∂ d + ∂ d) * q,
        ap ∂ e ∙ ∂-mul (d * d) q ∙ ap (λ x. x * q + d * d * ∂ q) (∂-mul d d)
            ∙ solve R ((var 2 :* var 0 :+ var 0 :* var 2) :* var 1 :+ var 0 :* var 0 :* var 3) (var 0 :* (var 0 :* var 3 :+ (var 2 :+ var 2) :* var 1)) tt (d ∷ q ∷ ∂ d ∷ ∂ q ∷ []),
      )

  -- ---- g' = 0
  pow_poly : (x : Poly 𝓥) (n : ℕ) → 𝓥.IsPoly (pow L x.0 n)
  unfolding pow
  pow_poly x zero = 𝓥.closed.𝟏
  pow_poly x (suc n) = 𝓥.closed.mul _ _ x.1 (pow_poly x n)

  -- a power of a constant is constant
  pow_const : (x : L.El) (n : ℕ) → Has 𝓥 x 0 → Has 𝓥 (pow L x n) 0
  unfolding pow
  pow_const x zero h = has_one 𝓥
  pow_const x (suc n) h = has_move 𝓥 0 0 (has_mul 𝓥 h (pow_const x n h)) (omega arith)

  flat_square : (G g h : Poly 𝓥) → 1 < p → G ≡ g * h → Nonconstant 𝓥 g → (∂ g).0 ≡ L.ops.𝟎 → SquareFactor 𝓥 G
  flat_square G g h big e (n, hg) z =
      let (f₀, hf, w) = δ.D_zero g.0 g.1 z in
      let f : Poly 𝓥 = (f₀, hf) in
      let s : Poly 𝓥 = (pow L f₀ (N.◌-◌ p 2), pow_poly f (N.◌-◌ p 2)) in
      let m : p ≡ suc (suc (N.◌-◌ p 2)) = omega arith in
      let gs : g ≡ f * (f * s) = P_path 𝓥 (w ∙ ap (pow L f₀) m ∙ pow-suc L f₀ (suc (N.◌-◌ p 2)) ∙ ap (λ x. L.ops.mul f₀ x) (pow-suc L f₀ (N.◌-◌ p 2))) in
      (f, big_f f s gs w (view 𝓥 f), (s * h, e ∙ ap (λ x. x * h) gs ∙ solve R (var 0 :* (var 0 :* var 1) :* var 2) (var 0 :* var 0 :* (var 1 :* var 2)) tt (f ∷ s ∷ h ∷ [])))
    where
      big_f : (f s : Poly 𝓥) → g ≡ f * (f * s) → g.0 ≡ pow L f.0 p → (f.0 ≡ L.ops.𝟎) ⊎ ((k : ℕ) × Has 𝓥 f.0 k) → Nonconstant 𝓥 f
      big_f f s gs w (inl y) = absurd (has_not_zero 𝓥 (has_eq 𝓥 hg (ap (λ x. x.0) gs ∙ ap (λ x. L.ops.mul x (f * s).0) y ∙ r.zero_mul' L (f * s).0)))
      big_f f s gs w (inr (k, hk)) = by k hk
        where
          by : (k : ℕ) → Has 𝓥 f.0 k → Nonconstant 𝓥 f
          by zero hk = let y : suc n ≡ 0 = same 𝓥 hg (has_eq 𝓥 (pow_const f.0 p hk) (sym w)) in absurd (omega arith)
          by (suc k) hk = (k, hk)

  -- ---- g' ≠ 0: G = g h, G' = g s; e = u g + v g', g = e k, g' = e l
  module _ (G g h s : Poly 𝓥) (left : G ≡ g * h) (right : ∂ G ≡ g * s) {n : ℕ} (dd : Has 𝓥 (∂ g).0 n)
      (e u v k l : Poly 𝓥) (comb : e ≡ u * g + v * ∂ g) (gk : g ≡ e * k) (gl : ∂ g ≡ e * l) where
    de : (i : ℕ) × Has 𝓥 e.0 i
    de = degree 𝓥 e (λ z. has_not_zero 𝓥 (has_eq 𝓥 dd (ap (λ x. x.0) gl ∙ ap (λ x. L.ops.mul x l.0) z ∙ r.zero_mul' L l.0)))

    dl : (i : ℕ) × Has 𝓥 l.0 i
    dl = degree 𝓥 l (λ z. has_not_zero 𝓥 (has_eq 𝓥 dd (ap (λ x. x.0) gl ∙ ap (λ x. L.ops.mul e.0 x) z ∙ r.mul-zero L e.0)))

    abbrev t : Poly 𝓥
    t = s + - ∂ h

    bezout : u * k + v * l ≡ 𝟏
    bezout = p_cancel 𝓥 e (u * k + v * l) 𝟏 de.1
        (solve_by R (var 0 :* (var 1 :* var 3 :+ var 2 :* var 4)) (var 0 :* one) (hyp (minus (var 1)) (var 5) (var 0 :* var 3) ∷ hyp (minus (var 2)) (var 6) (var 0 :* var 4) ∷ hyp (minus one) (var 0) (var 1 :* var 5 :+ var 2 :* var 6) ∷ []) tt
        (e ∷ u ∷ v ∷ k ∷ l ∷ g ∷ ∂ g ∷ []) (gk, (gl, (comb, tt))))

    -- from G' = g' h + g h' = g s
    across : l * h ≡ k * t
    across = p_cancel 𝓥 e (l * h) (k * t) de.1
        (solve_by R (var 0 :* (var 2 :* var 3)) (var 0 :* (var 1 :* (var 4 :+ minus (var 5))))
        (hyp (minus (var 3)) (var 7) (var 0 :* var 2) ∷ hyp (var 4 :+ minus (var 5)) (var 6) (var 0 :* var 1) ∷ hyp (minus one) (var 8) (var 7 :* var 3 :+ var 6 :* var 5) ∷ hyp one (var 8) (var 6 :* var 4) ∷ []) tt
        (e ∷ k ∷ l ∷ h ∷ s ∷ ∂ h ∷ g ∷ ∂ g ∷ ∂ G ∷ []) (gl, (gk, (ap ∂ left ∙ ∂-mul g h, (right, tt)))))

    -- k is not constant, or g would have the degree of e, and g' at least that
    not_const : Nonconstant 𝓥 k
    not_const = elim (view 𝓥 k) [
      | inl z ↦ absurd (has_not_zero 𝓥 (has_eq 𝓥 dd (ap δ.D (ap (λ x. x.0) gk ∙ ap (λ x. L.ops.mul e.0 x) z ∙ r.mul-zero L e.0) ∙ D_none ρ δ)))
      | inr (i, hi) ↦ by i hi
    ]
      where
        by : (i : ℕ) → Has 𝓥 k.0 i → Nonconstant 𝓥 k
        by (suc i) hi = (i, hi)
        by zero hi =
            let hg : Has 𝓥 g.0 (N.◌+◌ de.0 0) = has_eq 𝓥 (has_mul 𝓥 de.1 hi) (sym (ap (λ x. x.0) gk)) in
            let low : n < N.◌+◌ de.0 0 = above 𝓥 dd (D_lt ρ δ (N.◌+◌ de.0 0) g.0 g.1 (has_up 𝓥 (suc (N.◌+◌ de.0 0)) hg (omega arith))) in
            let high : n ≡ N.◌+◌ de.0 dl.0 = same 𝓥 dd (has_eq 𝓥 (has_mul 𝓥 de.1 dl.1) (sym (ap (λ x. x.0) gl))) in
            absurd (omega arith)

    wide_square : SquareFactor 𝓥 G
    wide_square = (
      k,
      not_const,
      (
        e * (u * h + v * t),
        -- G = g h = e k (u k + v l) h, and l h = k t
        solve_by R (var 8) (var 1 :* var 1 :* (var 0 :* (var 5 :* var 3 :+ var 6 :* var 4)))
            (hyp one (var 8) (var 7 :* var 3) ∷ hyp (var 3) (var 7) (var 0 :* var 1) ∷ hyp (minus (var 0 :* var 1 :* var 3)) (var 5 :* var 1 :+ var 6 :* var 2) one ∷ hyp (var 0 :* var 1 :* var 6) (var 2 :* var 3) (var 1 :* var 4) ∷ []) tt
            (e ∷ k ∷ l ∷ h ∷ t ∷ u ∷ v ∷ g ∷ G ∷ []) (left, (gk, (bezout, (across, tt)))),
      ),
    )

  pub square_factor : (G g : Poly 𝓥) → 1 < p → IsGcd 𝓥 G (∂ G) g → Nonconstant 𝓥 g → SquareFactor 𝓥 G
  square_factor G g big c k = elim (view 𝓥 (∂ g)) [
    | inl z ↦ flat_square G g c.left.0 big c.left.1 k z
    | inr (n, dd) ↦ (let b = 𝓥.bezout g (∂ g) in
        wide_square G g c.left.0 c.right.0 c.left.1 c.right.1 dd b.0 b.1 b.2 b.3 b.4 (P_path 𝓥 b.5) (P_path 𝓥 b.6) (P_path 𝓥 b.7))
  ]
