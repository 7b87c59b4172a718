-- Membership: v lies in Λ exactly where three divisions are exact, two by e (Cramer's rule) and one by U.
--   coords_of in_of   the three exact divisions of `Coords` are the same as `In`
--   coords_unique     and there is one choice
--   only_of_rank      "of the fractions of polynomials, only the polynomials" follows from the rank
--   ideal_of          an ideal is U ≠ 0, e ≠ 0 and six memberships; `by_r`, `by_w` of Lattice write out their elements
use mathlib.Core.Path.{◌≡◌, sym, ap, ap₂, ◌∙◌, subst}
use mathlib.Core.List.{List, [], ◌∷◌}
use mathlib.Core.Logic.{◌≢◌}
use Prim.Native.Nat.{ℕ}
use Rattle.math_ring.proofs.Laws as rg
use Rattle.math_ring.specs.Ring.{CRing}
use Rattle.math_ring.proofs.Solve.{Expr, var, hyp, one, zer, minus, ◌:+◌, ◌:*◌, ◌:=◌, solve, solve_by, ring₄}
use Rattle.math_valued.specs.Degree.{Has}
use Rattle.math_valued.specs.Polynomial.{polys, Divides}
use Rattle.math_valued.proofs.Polynomial.{P_path, degree}
use Rattle.math_valued.proofs.Divide.{p_cancel}
use Rattle.math_ideals.specs.Setting.{Setting, P}
use Rattle.math_ideals.specs.Element.{O, sc, el_r, el_w}
use Rattle.math_ideals.specs.Ideal.{Basis, lin, In, det, Coords, Holds, Ideal}
use Rattle.math_ideals.proofs.Sizes.{O_path, sc_a, sc_b, sc_c}
use Rattle.math_ideals.proofs.Lattice.{in_U, in_add, in_scale, lin_a, lin_b, lin_c}

module _ (S : Setting) (B : Basis S) where
  open S use {𝓥}
  open 𝓥 use {L}
  open (polys 𝓥).ops use {add as ◌⊞◌, mul as ◌⊠◌, neg as ⊟◌, 𝟎 as 0ₚ, 𝟏 as 1ₚ}
  open (O S).ops use {add as ◌⊕◌, mul as ◌⊗◌}

  infixl 60 ◌⊕◌ ◌⊞◌
  infixl 70 ◌⊗◌ ◌⊠◌
  infix 80 ⊟◌
  abbrev R : CRing
  R = polys 𝓥

  abbrev env : (O S).El → P S → P S → List (P S)
  env v β γ = v.b ∷ v.c ∷ B.M.b ∷ B.M.c ∷ B.N.b ∷ B.N.c ∷ β ∷ γ ∷ []

  -- the expressions b, c, M1, M2, N1, N2, β, γ
  abbrev e_e : Expr
  e_e = var 2 :* var 5 :+ minus (var 3 :* var 4)

  abbrev b_e : Expr
  b_e = var 6 :* var 2 :+ var 7 :* var 4

  abbrev c_e : Expr
  c_e = var 6 :* var 3 :+ var 7 :* var 5

  -- Cramer: the coordinates of an element of Λ
  pub cramer : (v : (O S).El) (i : In S B v) → (v.b ⊠ B.N.c ⊞ ⊟ (v.c ⊠ B.N.b) ≡ det S B ⊠ i.β) × (v.c ⊠ B.M.b ⊞ ⊟ (v.b ⊠ B.M.c) ≡ det S B ⊠ i.γ)
  cramer v i =
      let b-eq : v.b ≡ i.β ⊠ B.M.b ⊞ i.γ ⊠ B.N.b = ap (λ z. z.b) i.eq ∙ lin_b S B i.α i.β i.γ in
      let c-eq : v.c ≡ i.β ⊠ B.M.c ⊞ i.γ ⊠ B.N.c = ap (λ z. z.c) i.eq ∙ lin_c S B i.α i.β i.γ in (
        solve_by R (var 0 :* var 5 :+ minus (var 1 :* var 4)) (e_e :* var 6) (hyp (var 5) (var 0) b_e ∷ hyp (minus (var 4)) (var 1) c_e ∷ []) tt (env v i.β i.γ) (b-eq, (c-eq, tt)),
        solve_by R (var 1 :* var 2 :+ minus (var 0 :* var 3)) (e_e :* var 7) (hyp (minus (var 3)) (var 0) b_e ∷ hyp (var 2) (var 1) c_e ∷ []) tt (env v i.β i.γ) (b-eq, (c-eq, tt)),
      )

  -- and back: three exact divisions put v into Λ
  pub cramer_eq : {n : ℕ} → Has 𝓥 (det S B).0 n → (v : (O S).El) (α β γ : P S) → v.b ⊠ B.N.c ⊞ ⊟ (v.c ⊠ B.N.b) ≡ det S B ⊠ β → v.c ⊠ B.M.b ⊞ ⊟ (v.b ⊠ B.M.c) ≡ det S B ⊠ γ →
      v.a ⊞ ⊟ (β ⊠ B.M.a ⊞ γ ⊠ B.N.a) ≡ B.U ⊠ α → v ≡ lin S B α β γ
  cramer_eq h v α β γ eβ eγ eα = O_path S
      (solve_by R (var 0) (var 4 :* var 1 :+ var 2 :+ var 3) (hyp one (var 0 :+ minus (var 2 :+ var 3)) (var 1 :* var 4) ∷ []) tt (v.a ∷ B.U ∷ β ⊠ B.M.a ∷ γ ⊠ B.N.a ∷ α ∷ []) (eα, tt) ∙ sym (lin_a S B α β γ))
      (p_cancel 𝓥 (det S B) v.b (β ⊠ B.M.b ⊞ γ ⊠ B.N.b) h
      (solve_by R (e_e :* var 0) (e_e :* b_e) (hyp (var 2) (var 0 :* var 5 :+ minus (var 1 :* var 4)) (e_e :* var 6) ∷ hyp (var 4) (var 1 :* var 2 :+ minus (var 0 :* var 3)) (e_e :* var 7) ∷ []) tt (env v β γ) (eβ, (eγ, tt))) ∙ sym (lin_b S B α β γ))
      (p_cancel 𝓥 (det S B) v.c (β ⊠ B.M.c ⊞ γ ⊠ B.N.c) h
      (solve_by R (e_e :* var 1) (e_e :* c_e) (hyp (var 3) (var 0 :* var 5 :+ minus (var 1 :* var 4)) (e_e :* var 6) ∷ hyp (var 5) (var 1 :* var 2 :+ minus (var 0 :* var 3)) (e_e :* var 7) ∷ []) tt (env v β γ) (eβ, (eγ, tt))) ∙ sym (lin_c S B α β γ))

  pub coords_of : (v : (O S).El) → In S B v → Coords S B v
  coords_of v i = record {
    α = i.α;
    β = i.β;
    γ = i.γ;
    e_β = (cramer v i).0;
    e_γ = (cramer v i).1;
    U_α = ap (λ z. z ⊞ ⊟ (i.β ⊠ B.M.a ⊞ i.γ ⊠ B.N.a)) (ap (λ z. z.a) i.eq ∙ lin_a S B i.α i.β i.γ) ∙
        ring₄ R (λ α u m n. α :* u :+ m :+ n :+ minus (m :+ n) := u :* α) tt i.α B.U (i.β ⊠ B.M.a) (i.γ ⊠ B.N.a);
  }

  pub coords_eq : (det S B).0 ≢ L.ops.𝟎 → (v : (O S).El) (k : Coords S B v) → v ≡ lin S B k.α k.β k.γ
  coords_eq rank v k = cramer_eq (degree 𝓥 (det S B) rank).1 v k.α k.β k.γ k.e_β k.e_γ k.U_α

  pub in_of : (det S B).0 ≢ L.ops.𝟎 → (v : (O S).El) → Coords S B v → In S B v
  in_of rank v k = record { α = k.α; β = k.β; γ = k.γ; eq = coords_eq rank v k }

  -- exact quotients by e and U are settled
  pub coords_unique : B.U.0 ≢ L.ops.𝟎 → (det S B).0 ≢ L.ops.𝟎 → (v : (O S).El) (k l : Coords S B v) → (k.α ≡ l.α) × (k.β ≡ l.β) × (k.γ ≡ l.γ)
  coords_unique nz rank v k l =
      let (n, h) = degree 𝓥 (det S B) rank in
      let (m, g) = degree 𝓥 B.U nz in
      let eβ : k.β ≡ l.β = p_cancel 𝓥 (det S B) k.β l.β h (sym k.e_β ∙ l.e_β) in
      let eγ : k.γ ≡ l.γ = p_cancel 𝓥 (det S B) k.γ l.γ h (sym k.e_γ ∙ l.e_γ) in
      (p_cancel 𝓥 B.U k.α l.α g (sym k.U_α ∙ ap₂ (λ s t. v.a ⊞ ⊟ (s ⊠ B.M.a ⊞ t ⊠ B.N.a)) eβ eγ ∙ l.U_α), eβ, eγ)

  -- an element of Λ with no part of r and w is a multiple of U
  pub flat_in : (det S B).0 ≢ L.ops.𝟎 → (v : (O S).El) → In S B v → v.b ≡ 0ₚ → v.c ≡ 0ₚ → Divides 𝓥 B.U v.a
  flat_in rank v i zb zc =
      let (n, h) = degree 𝓥 (det S B) rank in
      let (eβ, eγ) = cramer v i in
      let zβ : i.β ≡ 0ₚ = p_cancel 𝓥 (det S B) i.β 0ₚ h (sym eβ ∙ ap₂ (λ s t. s ⊠ B.N.c ⊞ ⊟ (t ⊠ B.N.b)) zb zc ∙ solve R (zer :* var 0 :+ minus (zer :* var 1)) (var 2 :* zer) tt (B.N.c ∷ B.N.b ∷ det S B ∷ [])) in
      let zγ : i.γ ≡ 0ₚ = p_cancel 𝓥 (det S B) i.γ 0ₚ h (sym eγ ∙ ap₂ (λ s t. t ⊠ B.M.b ⊞ ⊟ (s ⊠ B.M.c)) zb zc ∙ solve R (zer :* var 0 :+ minus (zer :* var 1)) (var 2 :* zer) tt (B.M.b ∷ B.M.c ∷ det S B ∷ [])) in (
        i.α,
        ap (λ z. z.a) i.eq ∙ lin_a S B i.α i.β i.γ ∙ ap₂ (λ s t. i.α ⊠ B.U ⊞ s ⊠ B.M.a ⊞ t ⊠ B.N.a) zβ zγ ∙
            solve R (var 0 :* var 1 :+ zer :* var 2 :+ zer :* var 3) (var 1 :* var 0) tt (i.α ∷ B.U ∷ B.M.a ∷ B.N.a ∷ []),
      )

  pub only_of_rank : B.U.0 ≢ L.ops.𝟎 → (det S B).0 ≢ L.ops.𝟎 → (a b : P S) → b.0 ≢ L.ops.𝟎 → Holds S B a b → Divides 𝓥 b a
  only_of_rank nz rank a b bz (v, i, e) =
      let (n, hb) = degree 𝓥 b bz in
      let (m, hU) = degree 𝓥 B.U nz in
      let zb : v.b ≡ 0ₚ = p_cancel 𝓥 b v.b 0ₚ hb (P_path 𝓥 (sym (sc_b S b v) ∙ ap (λ z. z.b.0) e ∙ sc_b S a (sc S B.U) ∙ zero_both a.0 b.0)) in
      let zc : v.c ≡ 0ₚ = p_cancel 𝓥 b v.c 0ₚ hb (P_path 𝓥 (sym (sc_c S b v) ∙ ap (λ z. z.c.0) e ∙ sc_c S a (sc S B.U) ∙ zero_both a.0 b.0)) in
      let (q, f) = flat_in rank v i zb zc in
      let g : b ⊠ v.a ≡ a ⊠ B.U = P_path 𝓥 (sym (sc_a S b v) ∙ ap (λ z. z.a.0) e ∙ sc_a S a (sc S B.U)) in
      (q, p_cancel 𝓥 B.U a (b ⊠ q) hU (solve_by R (var 0 :* var 1) (var 0 :* (var 2 :* var 3)) (hyp (minus one) (var 2 :* var 4) (var 1 :* var 0) ∷ hyp (var 2) (var 4) (var 0 :* var 3) ∷ []) tt (B.U ∷ a ∷ b ∷ q ∷ v.a ∷ []) (g, (f, tt))))
    where
      zero_both : (x y : L.El) → L.ops.mul x L.ops.𝟎 ≡ L.ops.mul y L.ops.𝟎
      zero_both x y = rg.mul-zero L x ∙ sym (rg.mul-zero L y)

  -- closed under x where x U, x M and x N are in Λ
  closed_of : (x : (O S).El) → In S B (x ⊗ sc S B.U) → In S B (x ⊗ B.M) → In S B (x ⊗ B.N) → (v : (O S).El) → In S B v → In S B (x ⊗ v)
  closed_of x iu im in' v i = subst (In S B)
      (solve (O S) (var 1 :* (var 0 :* var 4) :+ var 2 :* (var 0 :* var 5) :+ var 3 :* (var 0 :* var 6)) (var 0 :* (var 1 :* var 4 :+ var 2 :* var 5 :+ var 3 :* var 6)) tt (x ∷ sc S i.α ∷ sc S i.β ∷ sc S i.γ ∷ sc S B.U ∷ B.M ∷ B.N ∷ []) ∙ ap (λ z. x ⊗ z) (sym i.eq))
      (in_add S B _ _ (in_add S B _ _ (in_scale S B i.α _ iu) (in_scale S B i.β _ im)) (in_scale S B i.γ _ in'))

  pub ideal_of : B.U.0 ≢ L.ops.𝟎 → (det S B).0 ≢ L.ops.𝟎 →
      In S B (el_r S ⊗ sc S B.U) → In S B (el_r S ⊗ B.M) → In S B (el_r S ⊗ B.N) →
      In S B (el_w S ⊗ sc S B.U) → In S B (el_w S ⊗ B.M) → In S B (el_w S ⊗ B.N) → Ideal S B
  ideal_of nz rank ru rm rn wu wm wn = record { U≢ = nz; rank = rank; one = in_U S B; only = only_of_rank nz rank; by_r = closed_of (el_r S) ru rm rn; by_w = closed_of (el_w S) wu wm wn }
