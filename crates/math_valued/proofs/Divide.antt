-- Coprime and squarefree polynomials.
use mathlib.Core.Path.{◌≡◌, sym, ap, ap₂, ◌∙◌}
use mathlib.Core.List.{[], ◌∷◌}
use Prim.Native.Nat.{ℕ}
use Rattle.math_ring.proofs.Laws as r
use Rattle.math_ring.specs.Ring.{CRing}
use Rattle.math_ring.proofs.Solve.{Expr, var, hyp, one, minus, ◌:+◌, ◌:*◌, ◌:=◌, solve_by, ring₃}
use Rattle.math_valued.specs.Val.{Valued}
use Rattle.math_valued.proofs.Degree as d
use Rattle.math_valued.proofs.Polynomial.{P_path}
use Rattle.math_valued.specs.Degree.{Has}
use Rattle.math_valued.specs.Polynomial.{Poly, polys, Divides, Squarefree, Coprime}

module _ (𝓥 : Valued) where
  abbrev R : CRing
  R = polys 𝓥

  open (polys 𝓥).ops use {add as ◌+◌, mul as ◌*◌, neg as -◌, 𝟎, 𝟏}

  infixl 60 ◌+◌
  infixl 70 ◌*◌
  infix 80 -◌
  pub p_cancel : {n : ℕ} (a b c : Poly 𝓥) → Has 𝓥 a.0 n → a * b ≡ a * c → b ≡ c
  p_cancel a b c h e = P_path 𝓥 (d.cancel 𝓥 b.0 c.0 h (ap (λ z. z.0) e))

  -- 1 = u a + v b
  abbrev pub Bez : Poly 𝓥 → Poly 𝓥 → Type 0
  Bez a b = (u v : Poly 𝓥) × (𝟏 ≡ u * a + v * b)

  pub bez_sym : (a b : Poly 𝓥) → Bez a b → Bez b a
  bez_sym a b (u, v, e) = (v, u, e ∙ R.laws.add_comm (u * a) (v * b))

  pub coprime_bez : (a b : Poly 𝓥) → Coprime 𝓥 a b → Bez a b
  coprime_bez a b h =
      let z = 𝓥.bezout a b in
      let (q, e) = h z.0 (z.3, P_path 𝓥 z.6) (z.4, P_path 𝓥 z.7) in (
        q * z.1,
        q * z.2,
        e ∙ ap (λ t. t * q) (P_path 𝓥 {a = z.0} {b = z.1 * a + z.2 * b} z.5) ∙
            solve_by R ((var 0 :* var 2 :+ var 1 :* var 3) :* var 4) (var 4 :* var 0 :* var 2 :+ var 4 :* var 1 :* var 3) [] tt (z.1 ∷ z.2 ∷ a ∷ b ∷ q ∷ []) tt,
      )

  pub euclid : (g a x : Poly 𝓥) → Bez g a → Divides 𝓥 g (x * a) → Divides 𝓥 g x
  euclid g a x (u, v, e) (k, f) =
      let G = var 0 in let A = var 1 in let X = var 2 in let U = var 3 in let W = var 4 in let C = var 5 in
      (x * u + v * k, solve_by R X (G :* (X :* U :+ W :* C)) (hyp X one (U :* G :+ W :* A) ∷ hyp W (X :* A) (G :* C) ∷ []) tt (g ∷ a ∷ x ∷ u ∷ v ∷ k ∷ []) (e, (f, tt)))

  -- G squarefree, G | a³: G | a
  pub cube_divides : {n : ℕ} (G a : Poly 𝓥) → Has 𝓥 G.0 n → Squarefree 𝓥 G → Divides 𝓥 G (a * a * a) → Divides 𝓥 G a
  cube_divides G a hG free (k, f) =
      let z = 𝓥.bezout G a in
      go z.0 z.1 z.2 z.3 z.4 (P_path 𝓥 z.5) (P_path 𝓥 z.6) (P_path 𝓥 z.7)
    where
      -- c = gcd(G, a), G = c g, a = c b, 1 = u g + v b
      go : (c u v g b : Poly 𝓥) → c ≡ u * G + v * a → G ≡ c * g → a ≡ c * b → Divides 𝓥 G a
      go c u v g b e₁ e₂ e₃ = (unit.0 * b, e₃ ∙ solve_by R (C :* B) (var 3 :* (var 4 :* B)) (hyp (minus (var 4 :* B)) (var 3) (C :* A) ∷ hyp (B :* C) one (A :* var 4) ∷ []) tt (c ∷ g ∷ b ∷ G ∷ unit.0 ∷ []) (e₂, (unit.1, tt)))
        where
          C : Expr
          C = var 0

          A : Expr
          A = var 1

          B : Expr
          B = var 2

          -- c cancels where G does: multiply by g
          drop : (s t : Poly 𝓥) → c * s ≡ c * t → s ≡ t
          drop s t e = p_cancel G s t hG (ap (λ w. w * s) e₂ ∙ solve_by R (C :* A :* var 2) (C :* A :* var 3) (hyp A (C :* var 2) (C :* var 3) ∷ []) tt (c ∷ g ∷ s ∷ t ∷ []) (e, tt) ∙ ap (λ w. w * t) (sym e₂))

          bez : Bez g b
          bez = (
            u,
            v,
            drop 𝟏 (u * g + v * b) (R.laws.mul-one c ∙ e₁ ∙ ap₂ (λ s t. u * s + v * t) e₂ e₃ ∙
                solve_by R (var 3 :* (C :* A) :+ var 4 :* (C :* B)) (C :* (var 3 :* A :+ var 4 :* B)) [] tt (c ∷ g ∷ b ∷ u ∷ v ∷ []) tt),
          )

          -- g | c² b³, so g | c²
          square : Divides 𝓥 g (c * c)
          square = euclid g b (c * c) bez (euclid g b (c * c * b) bez (euclid g b (c * c * b * b) bez
              (k, drop (c * c * b * b * b) (g * k) (solve_by R (C :* (C :* C :* B :* B :* B)) (C :* B :* (C :* B) :* (C :* B)) [] tt (c ∷ g ∷ b ∷ []) tt ∙ ap (λ w. w * w * w) (sym e₃) ∙ f ∙ ap (λ w. w * k) e₂ ∙ R.laws.mul_assoc c g k))))

          -- the gcd of g and c is a unit, since its square divides G = c g
          cop : Bez g c
          cop = coprime_bez g c (λ w (p, ep) (q, eq). free w (q * p, e₂ ∙ ap₂ ◌*◌ eq ep ∙ ring₃ R (λ w p q. w :* q :* (w :* p) := w :* w :* (q :* p)) tt w p q))

          unit : Divides 𝓥 g 𝟏
          unit = euclid g c 𝟏 cop (let (q, e) = euclid g c c cop square in (q, r.one-mul R c ∙ e))
