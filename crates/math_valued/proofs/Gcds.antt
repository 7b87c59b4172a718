-- The greatest common divisor of a list of polynomials as a combination of them.
use mathlib.Core.Path.{◌≡◌, refl, sym, ap, ap₂, ◌∙◌}
use mathlib.Core.List.{List, [], ◌∷◌}
use Rattle.math_ring.proofs.Laws as r
use Rattle.math_ring.specs.Ring.{CRing}
use Rattle.math_ring.proofs.Solve.{◌:+◌, ◌:*◌, ◌:=◌, ring₃, ring₄}
use Rattle.math_valued.specs.Val.{Valued}
use Rattle.math_valued.specs.Polynomial.{Poly, polys, Divides}
use Rattle.math_valued.proofs.Polynomial.{P_path}

module _ (𝓥 : Valued) where
  abbrev R : CRing
  R = polys 𝓥

  open (polys 𝓥).ops use {add as ◌+◌, mul as ◌*◌, neg as -◌, 𝟎, 𝟏}

  infixl 60 ◌+◌
  infixl 70 ◌*◌
  infix 80 -◌
  abbrev pub All : (Poly 𝓥 → Type 0) → List (Poly 𝓥) → Type 0
  All D [] = Unit {0}
  All D (a ∷ l) = D a × All D l

  -- g is a sum of multiples of the list's
  abbrev pub Comb : List (Poly 𝓥) → Poly 𝓥 → Type 0
  Comb [] g = g ≡ 𝟎
  Comb (a ∷ l) g = (u h : Poly 𝓥) × Comb l h × (g ≡ u * a + h)

  pub comb_scale : (l : List (Poly 𝓥)) (s g : Poly 𝓥) → Comb l g → Comb l (s * g)
  comb_scale [] s g e = ap (λ z. s * z) e ∙ r.mul-zero R s
  comb_scale (a ∷ l) s g (u, h, c, e) = (s * u, s * h, comb_scale l s h c, ap (λ z. s * z) e ∙ ring₄ R (λ s u a h. s :* (u :* a :+ h) := s :* u :* a :+ s :* h) tt s u a h)

  pub divides_mul : (d a b : Poly 𝓥) → Divides 𝓥 d a → Divides 𝓥 d (b * a)
  divides_mul d a b (q, e) = (b * q, ap (λ z. b * z) e ∙ ring₃ R (λ b d q. b :* (d :* q) := d :* (b :* q)) tt b d q)

  pub divides_add : (d a b : Poly 𝓥) → Divides 𝓥 d a → Divides 𝓥 d b → Divides 𝓥 d (a + b)
  divides_add d a b (q, e) (p, f) = (q + p, ap₂ ◌+◌ e f ∙ sym (R.laws.mul-add d q p))

  pub divides_trans : (d a b : Poly 𝓥) → Divides 𝓥 d a → Divides 𝓥 a b → Divides 𝓥 d b
  divides_trans d a b (q, e) (p, f) = (q * p, f ∙ ap (λ z. z * p) e ∙ R.laws.mul_assoc d q p)

  all_trans : (d h : Poly 𝓥) (l : List (Poly 𝓥)) → Divides 𝓥 d h → All (Divides 𝓥 h) l → All (Divides 𝓥 d) l
  all_trans d h [] k a = tt
  all_trans d h (x ∷ l) k (a, b) = (divides_trans d h x k a, all_trans d h l k b)

  -- Bezout, for a list
  pub gcds : (l : List (Poly 𝓥)) → (g : Poly 𝓥) × Comb l g × All (Divides 𝓥 g) l
  gcds [] = (𝟎, refl, tt)
  gcds (x ∷ l) =
      let (h, c, a) = gcds l in
      let b = 𝓥.bezout x h in
      (b.0, (b.1, b.2 * h, comb_scale l b.2 h c, P_path 𝓥 b.5), ((b.3, P_path 𝓥 b.6), all_trans b.0 h l (b.4, P_path 𝓥 b.7) a))

  -- What divides e times each of the list divides e times their combinations.
  pub comb_divides : (d e : Poly 𝓥) (l : List (Poly 𝓥)) (g : Poly 𝓥) → Comb l g → All (λ a. Divides 𝓥 d (e * a)) l → Divides 𝓥 d (e * g)
  comb_divides d e [] g c a = (𝟎, ap (λ z. e * z) c ∙ r.mul-zero R e ∙ sym (r.mul-zero R d))
  comb_divides d e (x ∷ l) g (u, h, c, k) (a, b) =
      let (q, f) = divides_add d (u * (e * x)) (e * h) (divides_mul d (e * x) u a) (comb_divides d e l h c b) in
      (q, ap (λ z. e * z) k ∙ ring₄ R (λ e u x h. e :* (u :* x :+ h) := u :* (e :* x) :+ e :* h) tt e u x h ∙ f)

  -- the quotients by a common divisor, and what a combination becomes
  abbrev pub quots : (d : Poly 𝓥) (l : List (Poly 𝓥)) → All (Divides 𝓥 d) l → List (Poly 𝓥)
  quots d [] t = []
  quots d (x ∷ l) (a, b) = a.0 ∷ quots d l b

  pub comb_quots : (d : Poly 𝓥) (l : List (Poly 𝓥)) (k : All (Divides 𝓥 d) l) (g : Poly 𝓥) → Comb l g → (h : Poly 𝓥) × Comb (quots d l k) h × (g ≡ d * h)
  comb_quots d [] k g c = (𝟎, refl, c ∙ sym (r.mul-zero R d))
  comb_quots d (x ∷ l) ((q, e), b) g (u, h, c, f) =
      let (h', c', f') = comb_quots d l b h c in
      (u * q + h', (u, h', c', refl), f ∙ ap₂ (λ s t. u * s + t) e f' ∙ ring₄ R (λ u d q h. u :* (d :* q) :+ d :* h := d :* (u :* q :+ h)) tt u d q h')
