-- The determinant e = M1 N2 − M2 N1 of an ideal's basis divides U, where no factor divides all seven rows.
--   only_poly     a polynomial in Λ is a multiple of U
--   det_divides   e | U
use mathlib.Core.Path.{◌≡◌, sym, ap, ap₂, ◌∙◌, subst}
use mathlib.Core.List.{List, [], ◌∷◌}
use Prim.Native.Nat.{ℕ}
use Rattle.math_ring.proofs.Laws as rg
use Rattle.math_ring.specs.Ring.{CRing}
use Rattle.math_ring.proofs.Solve.{Expr, var, exprs, hyp, zer, minus, ◌:+◌, ◌:*◌, ◌:=◌, solve, solve_by, ring₃}
use Rattle.math_triple.specs.Tri.{tri_e}
use Rattle.math_triple.specs.Order.{triops}
use Rattle.math_valued.specs.Degree.{Has}
use Rattle.math_valued.specs.Polynomial.{polys, Divides}
use Rattle.math_valued.proofs.Polynomial.{degree}
use Rattle.math_valued.proofs.Gcds.{Comb, All, gcds, comb_divides}
use Rattle.math_valued.proofs.Divide.{p_cancel}
use Rattle.math_ideals.specs.Setting.{Setting, P}
use Rattle.math_ideals.specs.Ideal.{Basis, In, det, Ideal}
use Rattle.math_ideals.specs.Element.{O, sc}
use Rattle.math_ideals.specs.Basis.{NoFactor}
use Rattle.math_ideals.proofs.Sizes.{O_path, sc_e, g_e, h_e}
use Rattle.math_ideals.proofs.Lattice.{in_U, in_M, in_N, in_add, in_scale, lin_b, lin_c, by_r_poly, by_w_poly}

pub only_poly : (S : Setting) (B : Basis S) → Ideal S B → (a : P S) → In S B (sc S a) → Divides S.𝓥 B.U a
only_poly S B ideal a i = ideal.only a B.U ideal.U≢ (sc S a, i, (O S).laws.mul_comm (sc S B.U) (sc S a))

module _ (S : Setting) (B : Basis S) (ideal : Ideal S B) where
  open S use {𝓥}
  open S.roots use {G, H}
  open 𝓥 use {L}
  open (polys 𝓥).ops use {add as ◌⊞◌, mul as ◌⊠◌, neg as ⊟◌, 𝟎 as 0ₚ, 𝟏 as 1ₚ}
  open (O S).ops use {add as ◌⊕◌, mul as ◌⊗◌}

  infixl 60 ◌⊕◌ ◌⊞◌
  infixl 70 ◌⊗◌ ◌⊠◌
  infix 80 ⊟◌
  abbrev R : CRing
  R = polys 𝓥

  -- the expressions M1, M2, N1, N2, β, γ, U
  abbrev e_e : Expr
  e_e = var 0 :* var 3 :+ minus (var 1 :* var 2)

  abbrev env : P S → P S → List (P S)
  env β γ = B.M.b ∷ B.M.c ∷ B.N.b ∷ B.N.c ∷ β ∷ γ ∷ B.U ∷ []

  -- r U and w U lie in Λ
  r_in : In S B (record { a = 0ₚ; b = B.U; c = 0ₚ })
  r_in = subst (In S B) (by_r_poly S B.U) (ideal.by_r (sc S B.U) (in_U S B))

  w_in : In S B (record { a = 0ₚ; b = 0ₚ; c = B.U })
  w_in = subst (In S B) (by_w_poly S B.U) (ideal.by_w (sc S B.U) (in_U S B))

  abbrev b_e : Expr
  b_e = var 4 :* var 0 :+ var 5 :* var 2

  abbrev c_e : Expr
  c_e = var 4 :* var 1 :+ var 5 :* var 3

  -- e | U M1, U M2, U N1, U N2: Cramer's rule
  e_M1 : Divides 𝓥 (det S B) (B.U ⊠ B.M.b)
  e_M1 =
      let i = w_in in
      (i.γ, solve_by R (var 6 :* var 0) (e_e :* var 5) (hyp (minus (var 1)) zer b_e ∷ hyp (var 0) (var 6) c_e ∷ []) tt (env i.β i.γ) (ap (λ z. z.b) i.eq ∙ lin_b S B _ _ _, (ap (λ z. z.c) i.eq ∙ lin_c S B _ _ _, tt)))

  e_M2 : Divides 𝓥 (det S B) (B.U ⊠ B.M.c)
  e_M2 =
      let i = r_in in
      (⊟ i.γ, solve_by R (var 6 :* var 1) (e_e :* minus (var 5)) (hyp (var 1) (var 6) b_e ∷ hyp (minus (var 0)) zer c_e ∷ []) tt (env i.β i.γ) (ap (λ z. z.b) i.eq ∙ lin_b S B _ _ _, (ap (λ z. z.c) i.eq ∙ lin_c S B _ _ _, tt)))

  e_N1 : Divides 𝓥 (det S B) (B.U ⊠ B.N.b)
  e_N1 =
      let i = w_in in
      (⊟ i.β, solve_by R (var 6 :* var 2) (e_e :* minus (var 4)) (hyp (minus (var 3)) zer b_e ∷ hyp (var 2) (var 6) c_e ∷ []) tt (env i.β i.γ) (ap (λ z. z.b) i.eq ∙ lin_b S B _ _ _, (ap (λ z. z.c) i.eq ∙ lin_c S B _ _ _, tt)))

  e_N2 : Divides 𝓥 (det S B) (B.U ⊠ B.N.c)
  e_N2 =
      let i = r_in in
      (i.β, solve_by R (var 6 :* var 3) (e_e :* var 4) (hyp (var 3) (var 6) b_e ∷ hyp (minus (var 2)) zer c_e ∷ []) tt (env i.β i.γ) (ap (λ z. z.b) i.eq ∙ lin_b S B _ _ _, (ap (λ z. z.c) i.eq ∙ lin_c S B _ _ _, tt)))

  open triops exprs g_e h_e use {add as ◌:⊕◌, mul as ◌:⊗◌}

  infixl 60 ◌:⊕◌
  infixl 70 ◌:⊗◌
  -- V in Λ with V1 = c v1, V2 = c v2 and U = c u: c | V0, for (u V0, 0, 0) = u V − v1 (r U) − v2 (w U)
  first_row : {n : ℕ} (v : (O S).El) (c u v₁ v₂ : P S) → Has 𝓥 u.0 n → In S B v → B.U ≡ c ⊠ u → v.b ≡ c ⊠ v₁ → v.c ≡ c ⊠ v₂ → Divides 𝓥 c v.a
  first_row v c u v₁ v₂ hu i e_u e₁ e₂ =
      let (q, e) = only_poly S B ideal (u ⊠ v.a) (subst (In S B) combined (in_add S B _ _ (in_add S B _ _ (in_scale S B u v i) (in_scale S B (⊟ v₁) _ r_in)) (in_scale S B (⊟ v₂) _ w_in))) in
      (q, p_cancel 𝓥 u v.a (c ⊠ q) hu (e ∙ ap (λ z. z ⊠ q) e_u ∙ ring₃ R (λ c u q. c :* u :* q := u :* (c :* q)) tt c u q))
    where
      -- G, H, then c, u, v₁, v₂, v, U
      l : List (P S)
      l = G ∷ H ∷ c ∷ u ∷ v₁ ∷ v₂ ∷ v.a ∷ v.b ∷ v.c ∷ B.U ∷ []

      combined : sc S u ⊗ v ⊕ sc S (⊟ v₁) ⊗ record { a = 0ₚ; b = B.U; c = 0ₚ } ⊕ sc S (⊟ v₂) ⊗ record { a = 0ₚ; b = 0ₚ; c = B.U } ≡ sc S (u ⊠ v.a)
      combined =
          let z = sc_e (var 3) :⊗ tri_e (var 6) (var 7) (var 8) :⊕ sc_e (minus (var 4)) :⊗ tri_e zer (var 9) zer :⊕ sc_e (minus (var 5)) :⊗ tri_e zer zer (var 9) in
          O_path S
          (solve R z.a (var 3 :* var 6) tt l)
          (solve_by R z.b zer (hyp (var 3) (var 7) (var 2 :* var 4) ∷ hyp (minus (var 4)) (var 9) (var 2 :* var 3) ∷ []) tt l (e₁, (e_u, tt)))
          (solve_by R z.c zer (hyp (var 3) (var 8) (var 2 :* var 5) ∷ hyp (minus (var 5)) (var 9) (var 2 :* var 3) ∷ []) tt l (e₂, (e_u, tt)))

  -- e | U c and c² | e; so c | U, c divides the seven, and c is a unit
  pub det_divides : NoFactor S B → Divides 𝓥 (det S B) B.U
  det_divides seven = go (gcds 𝓥 (B.M.b ∷ B.M.c ∷ B.N.b ∷ B.N.c ∷ []))
    where
      -- c the gcd, with M1 = c a₁, .., and U c = e f
      fill : (c a₁ a₂ a₃ a₄ f : P S) → B.M.b ≡ c ⊠ a₁ → B.M.c ≡ c ⊠ a₂ → B.N.b ≡ c ⊠ a₃ → B.N.c ≡ c ⊠ a₄ → B.U ⊠ c ≡ det S B ⊠ f → Divides 𝓥 (det S B) B.U
      fill c a₁ a₂ a₃ a₄ f e₁ e₂ e₃ e₄ k =
          let (q, unit) = seven c (u, e_u) (first_row B.M c u a₁ a₂ hu (in_M S B) e_u e₁ e₂) (a₁, e₁) (a₂, e₂) (first_row B.N c u a₃ a₄ hu (in_N S B) e_u e₃ e₄) (a₃, e₃) (a₄, e₄) in
          (f ⊠ q, sym (R.laws.mul-one B.U) ∙ ap (λ z. B.U ⊠ z) unit ∙ sym (R.laws.mul_assoc B.U c q) ∙ ap (λ z. z ⊠ q) k ∙ R.laws.mul_assoc (det S B) f q)
        where
          e' : P S
          e' = a₁ ⊠ a₄ ⊞ ⊟ (a₂ ⊠ a₃)

          e_eq : det S B ≡ c ⊠ (c ⊠ e')
          e_eq = ap₂ (λ s t. s ⊠ B.N.c ⊞ ⊟ (t ⊠ B.N.b)) e₁ e₂ ∙ ap₂ (λ s t. c ⊠ a₁ ⊠ s ⊞ ⊟ (c ⊠ a₂ ⊠ t)) e₄ e₃ ∙
              solve R (var 0 :* var 1 :* (var 0 :* var 4) :+ minus (var 0 :* var 2 :* (var 0 :* var 3))) (var 0 :* (var 0 :* (var 1 :* var 4 :+ minus (var 2 :* var 3)))) tt (c ∷ a₁ ∷ a₂ ∷ a₃ ∷ a₄ ∷ [])

          c_has : (n : ℕ) × Has 𝓥 c.0 n
          c_has = degree 𝓥 c (λ z. ideal.rank (ap (λ t. t.0) e_eq ∙ ap (λ t. L.ops.mul t (L.ops.mul c.0 e'.0)) z ∙ rg.zero_mul' L _))

          u : P S
          u = e' ⊠ f

          e_u : B.U ≡ c ⊠ u
          e_u = p_cancel 𝓥 c B.U (c ⊠ u) c_has.1 (R.laws.mul_comm c B.U ∙ k ∙ ap (λ z. z ⊠ f) e_eq ∙ solve R (var 0 :* (var 0 :* var 1) :* var 2) (var 0 :* (var 0 :* (var 1 :* var 2))) tt (c ∷ e' ∷ f ∷ []))

          hu : Has 𝓥 u.0 (degree 𝓥 u (λ z. ideal.U≢ (ap (λ t. t.0) e_u ∙ ap (λ t. L.ops.mul c.0 t) z ∙ rg.mul-zero L c.0))).0
          hu = (degree 𝓥 u (λ z. ideal.U≢ (ap (λ t. t.0) e_u ∙ ap (λ t. L.ops.mul c.0 t) z ∙ rg.mul-zero L c.0))).1

      go : (g : P S) × Comb 𝓥 (B.M.b ∷ B.M.c ∷ B.N.b ∷ B.N.c ∷ []) g × All 𝓥 (Divides 𝓥 g) (B.M.b ∷ B.M.c ∷ B.N.b ∷ B.N.c ∷ []) → Divides 𝓥 (det S B) B.U
      go (c, comb, ((a₁, e₁), ((a₂, e₂), ((a₃, e₃), ((a₄, e₄), t))))) =
          let (f, k) = comb_divides 𝓥 (det S B) B.U (B.M.b ∷ B.M.c ∷ B.N.b ∷ B.N.c ∷ []) c comb (e_M1, (e_M2, (e_N1, (e_N2, tt)))) in
          fill c a₁ a₂ a₃ a₄ f e₁ e₂ e₃ e₄ k
