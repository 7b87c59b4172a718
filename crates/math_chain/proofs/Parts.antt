-- Dividing an ideal by m without cofactor or norm: what holds of `Parts`, `Cut` and `base`.
--   parts          the parts exist for every ideal; `parts_unique`: there is one choice
--   pt_M           m · pt c₁ c₂ = (c₁ x0 + c₂ y0) + (c₁ x2 + c₂ y2) n
--   cut            the common factor exists; `cut_greatest`: what divides the four divides g
--   d_norm         d e U = N(M)
--   base_M base_N base_next   P m = d, Q m = d n, and so base is a basis of the next ideal
--   base_d base_det   d = g · (base's d), and base's determinant is −d/g²
use mathlib.Core.Path.{◌≡◌, refl, sym, ap, ap₂, ◌∙◌, subst}
use mathlib.Core.List.{List, [], ◌∷◌}
use mathlib.Core.Logic.{◌≢◌}
use Rattle.math_ring.specs.Ring.{CRing}
use Rattle.math_ring.proofs.Solve.{var, hyp, zer, minus, ◌:+◌, ◌:*◌, ◌:=◌, exprs, solve, solve_by, ring₃}
use Rattle.math_triple.specs.Tri.{tri_e, norm_t}
use Rattle.math_triple.specs.Order.{triops}
use Rattle.math_valued.specs.Polynomial.{polys, Divides}
use Rattle.math_valued.proofs.Polynomial.{P_path, degree}
use Rattle.math_valued.proofs.Divide.{p_cancel}
use Rattle.math_valued.proofs.Gcds.{All, Comb, gcds, quots, comb_quots, comb_divides, divides_mul}
use Rattle.math_ideals.specs.Setting.{Setting, P}
use Rattle.math_ideals.specs.Element.{O, sc, times_r, times_w, norm}
use Rattle.math_ideals.specs.Ideal.{Basis, lin, In, det, Ideal}
use Rattle.math_ideals.specs.Next.{Next}
use Rattle.math_ideals.proofs.Sizes.{O_path}
use Rattle.math_ideals.proofs.Lattice.{in_M, lin_a, lin_b, lin_c, by_r, by_w}
use Rattle.math_ideals.proofs.Check.{coords_of, coords_eq, coords_unique}
use Rattle.math_chain.specs.Parts.{Parts, Cut, x0, x1, x2, y0, y1, y2, dd, pt, base}

module _ (S : Setting) where
  open S use {𝓥}
  open S.roots use {G, H}
  open 𝓥 use {L}
  open (polys 𝓥).ops use {add as ◌⊞◌, mul as ◌⊠◌, neg as ⊟◌, 𝟎 as 0ₚ, 𝟏 as 1ₚ}
  open (O S).ops use {add as ◌⊕◌, mul as ◌⊗◌}

  infixl 60 ◌⊕◌ ◌⊞◌
  infixl 70 ◌⊗◌ ◌⊠◌
  infix 80 ⊟◌
  abbrev R : CRing
  R = polys 𝓥

  pub parts : (B : Basis S) → Ideal S B → Parts S B
  parts B i = record {
    of_r = coords_of S B _ (subst (In S B) (by_r S B.M) (i.by_r _ (in_M S B)));
    of_w = coords_of S B _ (subst (In S B) (by_w S B.M) (i.by_w _ (in_M S B)));
  }

  module _ (B : Basis S) (k : Parts S B) where
    module _ (rank : (det S B).0 ≢ L.ops.𝟎) where
      -- r M and w M in coordinates
      r_eq : times_r S B.M ≡ lin S B (x0 S B k) (x1 S B k) (x2 S B k)
      r_eq = coords_eq S B rank _ k.of_r

      w_eq : times_w S B.M ≡ lin S B (y0 S B k) (y1 S B k) (y2 S B k)
      w_eq = coords_eq S B rank _ k.of_w

      -- G, H, M, N, U, x0 .. y2, c₁, c₂
      l : P S → P S → List (P S)
      l c₁ c₂ = G ∷ H ∷ B.M.a ∷ B.M.b ∷ B.M.c ∷ B.N.a ∷ B.N.b ∷ B.N.c ∷ B.U ∷ (x0 S B k) ∷ (x1 S B k) ∷ (x2 S B k) ∷ (y0 S B k) ∷ (y1 S B k) ∷ (y2 S B k) ∷ c₁ ∷ c₂ ∷ []

      open triops exprs (var 0) (var 1) use {add as ◌:⊕◌, mul as ◌:⊗◌}

      infixl 60 ◌:⊕◌
      infixl 70 ◌:⊗◌
      pub pt_M : (c₁ c₂ : P S) → B.M ⊗ pt S B k c₁ c₂ ≡ sc S (c₁ ⊠ (x0 S B k) ⊞ c₂ ⊠ (y0 S B k)) ⊗ sc S B.U ⊕ sc S (c₁ ⊠ (x2 S B k) ⊞ c₂ ⊠ (y2 S B k)) ⊗ B.N
      unfolding l
      pt_M c₁ c₂ =
          let X0 = var 9 in let X1 = var 10 in let X2 = var 11 in let Y0 = var 12 in let Y1 = var 13 in let Y2 = var 14 in let C₁ = var 15 in let C₂ = var 16 in
          let M0 = var 2 in let M1 = var 3 in let M2 = var 4 in let N0 = var 5 in let N1 = var 6 in let N2 = var 7 in let U = var 8 in
          let m = tri_e M0 M1 M2 in
          let n = tri_e N0 N1 N2 in
          let lhs = m :⊗ tri_e (minus (C₁ :* X1 :+ C₂ :* Y1)) C₁ C₂ in
          let rhs = tri_e (C₁ :* X0 :+ C₂ :* Y0) zer zer :⊗ tri_e U zer zer :⊕ tri_e (C₁ :* X2 :+ C₂ :* Y2) zer zer :⊗ n in
          O_path S
          (solve_by R lhs.a rhs.a (hyp C₁ (M2 :* (var 0 :* var 1)) (X0 :* U :+ X1 :* M0 :+ X2 :* N0) ∷ hyp C₂ (M1 :* (var 0 :* var 1)) (Y0 :* U :+ Y1 :* M0 :+ Y2 :* N0) ∷ []) tt (l c₁ c₂)
          (ap (λ z. z.a) r_eq ∙ lin_a S B _ _ _, (ap (λ z. z.a) w_eq ∙ lin_a S B _ _ _, tt)))
          (solve_by R lhs.b rhs.b (hyp C₁ M0 (X1 :* M1 :+ X2 :* N1) ∷ hyp C₂ (M2 :* var 0) (Y1 :* M1 :+ Y2 :* N1) ∷ []) tt (l c₁ c₂)
          (ap (λ z. z.b) r_eq ∙ lin_b S B _ _ _, (ap (λ z. z.b) w_eq ∙ lin_b S B _ _ _, tt)))
          (solve_by R lhs.c rhs.c (hyp C₁ (M1 :* var 1) (X1 :* M2 :+ X2 :* N2) ∷ hyp C₂ M0 (Y1 :* M2 :+ Y2 :* N2) ∷ []) tt (l c₁ c₂)
          (ap (λ z. z.c) r_eq ∙ lin_c S B _ _ _, (ap (λ z. z.c) w_eq ∙ lin_c S B _ _ _, tt)))

      -- d e U = N(M)
      pub d_norm : (dd S B k) ⊠ (det S B ⊠ B.U) ≡ norm S B.M
      unfolding l
      d_norm = p_cancel 𝓥 (det S B) ((dd S B k) ⊠ (det S B ⊠ B.U)) (norm S B.M) (degree 𝓥 (det S B) rank).1 (
          let g = var 0 in let h = var 1 in
          let M0 = var 2 in let M1 = var 3 in let M2 = var 4 in let N0 = var 5 in let N1 = var 6 in let N2 = var 7 in let U = var 8 in
          let X0 = var 9 in let X1 = var 10 in let X2 = var 11 in let Y0 = var 12 in let Y1 = var 13 in let Y2 = var 14 in
          let E = M1 :* N2 :+ minus (M2 :* N1) in
          let A1 = M0 :* N2 :+ minus (M1 :* h :* N1) in
          let A2 = M1 :* h :* M1 :+ minus (M0 :* M2) in
          let C1 = M2 :* g :* N2 :+ minus (M0 :* N1) in
          let C2 = M0 :* M1 :+ minus (M2 :* g :* M2) in
          let gh = g :* h in
          solve_by R (E :* ((X2 :* Y0 :+ minus (X0 :* Y2)) :* (E :* U))) (E :* norm_t exprs g h (tri_e M0 M1 M2))
          (hyp (minus (M0 :* E :* Y2)) A1 (E :* X1)
          ∷ hyp (minus (E :* M1 :* gh) :+ M0 :* C1) A2 (E :* X2)
          ∷ hyp (M0 :* E :* X2) C1 (E :* Y1)
          ∷ hyp (E :* M2 :* gh :+ minus (M0 :* A1)) C2 (E :* Y2)
          ∷ hyp (E :* E :* Y2) (M2 :* gh :+ minus (X1 :* M0 :+ X2 :* N0)) (U :* X0)
          ∷ hyp (minus (E :* E :* X2)) (M1 :* gh :+ minus (Y1 :* M0 :+ Y2 :* N0)) (U :* Y0) ∷ []) tt (l 0ₚ 0ₚ)
          (k.of_r.e_β, (k.of_r.e_γ, (k.of_w.e_β, (k.of_w.e_γ, (k.of_r.U_α, (k.of_w.U_α, tt)))))))

      module _ (c : Cut S B k) where
        -- G and H are not needed: g, a0, a2, b0, b2, x0, x2, y0, y2
        cut_l : List (P S)
        cut_l = c.g ∷ c.a0 ∷ c.a2 ∷ c.b0 ∷ c.b2 ∷ (x0 S B k) ∷ (x2 S B k) ∷ (y0 S B k) ∷ (y2 S B k) ∷ []

        -- P m = d
        pub base_M : B.M ⊗ (base S B k c).M ≡ sc S (base S B k c).U ⊗ sc S B.U
        unfolding cut_l
        base_M =
            pt_M (⊟ c.b2) c.a2
            ∙ ap₂ (λ s t. sc S s ⊗ sc S B.U ⊕ sc S t ⊗ B.N)
            (solve_by R (minus (var 4) :* var 5 :+ var 2 :* var 7) (var 0 :* (var 2 :* var 3 :+ minus (var 1 :* var 4))) (hyp (minus (var 4)) (var 5) (var 0 :* var 1) ∷ hyp (var 2) (var 7) (var 0 :* var 3) ∷ []) tt cut_l (c.x0_eq, (c.y0_eq, tt)))
            (solve_by R (minus (var 4) :* var 6 :+ var 2 :* var 8) zer (hyp (minus (var 4)) (var 6) (var 0 :* var 2) ∷ hyp (var 2) (var 8) (var 0 :* var 4) ∷ []) tt cut_l (c.x2_eq, (c.y2_eq, tt)))
            ∙ ring₃ (O S) (λ d u n. d :* u :+ zer :* n := d :* u) tt (sc S (base S B k c).U) (sc S B.U) B.N

        -- Q m = d n
        pub base_N : B.M ⊗ (base S B k c).N ≡ sc S (base S B k c).U ⊗ B.N
        unfolding cut_l
        base_N =
            pt_M c.b0 (⊟ c.a0)
            ∙ ap₂ (λ s t. sc S s ⊗ sc S B.U ⊕ sc S t ⊗ B.N)
            (solve_by R (var 3 :* var 5 :+ minus (var 1) :* var 7) zer (hyp (var 3) (var 5) (var 0 :* var 1) ∷ hyp (minus (var 1)) (var 7) (var 0 :* var 3) ∷ []) tt cut_l (c.x0_eq, (c.y0_eq, tt)))
            (solve_by R (var 3 :* var 6 :+ minus (var 1) :* var 8) (var 0 :* (var 2 :* var 3 :+ minus (var 1 :* var 4))) (hyp (var 3) (var 6) (var 0 :* var 2) ∷ hyp (minus (var 1)) (var 8) (var 0 :* var 4) ∷ []) tt cut_l (c.x2_eq, (c.y2_eq, tt)))
            ∙ ring₃ (O S) (λ d u n. zer :* u :+ d :* n := d :* n) tt (sc S (base S B k c).U) (sc S B.U) B.N

        -- so 1, P/d, Q/d span the next ideal
        pub base_next : Next S B (base S B k c)
        base_next = record {
          into = λ v i. (lin S B i.β i.α i.γ, record { α = i.β; β = i.α; γ = i.γ; eq = refl }, ap (λ z. B.M ⊗ z) i.eq ∙ equal i.α i.β i.γ);
          onto = λ u i. (lin S (base S B k c) i.β i.α i.γ, record { α = i.β; β = i.α; γ = i.γ; eq = refl }, equal i.β i.α i.γ ∙ ap (λ z. sc S (base S B k c).U ⊗ z) (sym i.eq));
        }
          where
            equal : (α β γ : P S) → B.M ⊗ lin S (base S B k c) α β γ ≡ sc S (base S B k c).U ⊗ lin S B β α γ
            equal α β γ =
                let M = var 0 in let d = var 1 in let p = var 2 in let q = var 3 in let U = var 4 in let N = var 5 in let a = var 6 in let b = var 7 in let g = var 8 in
                solve_by (O S) (M :* (a :* d :+ b :* p :+ g :* q)) (d :* (b :* U :+ a :* M :+ g :* N)) (hyp b (M :* p) (d :* U) ∷ hyp g (M :* q) (d :* N) ∷ []) tt
                (B.M ∷ sc S (base S B k c).U ∷ (base S B k c).M ∷ (base S B k c).N ∷ sc S B.U ∷ B.N ∷ sc S α ∷ sc S β ∷ sc S γ ∷ []) (base_M, (base_N, tt))

        -- d with its factor g
        pub base_d : c.g ⊠ (base S B k c).U ≡ (dd S B k)
        unfolding cut_l
        base_d = solve_by R (var 0 :* (var 0 :* (var 2 :* var 3 :+ minus (var 1 :* var 4)))) (var 6 :* var 7 :+ minus (var 5 :* var 8))
            (hyp (minus (var 7)) (var 6) (var 0 :* var 2) ∷ hyp (minus (var 0 :* var 2)) (var 7) (var 0 :* var 3) ∷ hyp (var 8) (var 5) (var 0 :* var 1) ∷ hyp (var 0 :* var 1) (var 8) (var 0 :* var 4) ∷ []) tt cut_l
            (c.x2_eq, (c.y0_eq, (c.x0_eq, (c.y2_eq, tt))))

        -- the determinant of the pairs of base is −d/g
        pub base_det : c.g ⊠ det S (base S B k c) ≡ ⊟ (base S B k c).U
        unfolding cut_l
        base_det = solve R (var 0 :* (minus (var 4) :* minus (var 1) :+ minus (var 2 :* var 3))) (minus (var 0 :* (var 2 :* var 3 :+ minus (var 1 :* var 4)))) tt cut_l

  -- exact quotients are settled
  pub parts_unique : (B : Basis S) → Ideal S B → (k l : Parts S B) → (x0 S B k ≡ x0 S B l) × (x1 S B k ≡ x1 S B l) × (x2 S B k ≡ x2 S B l) × (y0 S B k ≡ y0 S B l) × (y1 S B k ≡ y1 S B l) × (y2 S B k ≡ y2 S B l)
  parts_unique B i k l =
      let (a, b, c) = coords_unique S B i.U≢ i.rank _ k.of_r l.of_r in
      let (a', b', c') = coords_unique S B i.U≢ i.rank _ k.of_w l.of_w in
      (a, b, c, a', b', c')

  abbrev list : (B : Basis S) → Parts S B → List (P S)
  list B k = x2 S B k ∷ x0 S B k ∷ y0 S B k ∷ y2 S B k ∷ []

  -- the common factor exists: Bezout for the four
  pub cut : (B : Basis S) (k : Parts S B) → (dd S B k).0 ≢ L.ops.𝟎 → Cut S B k
  cut B k nz = go (gcds 𝓥 (list B k))
    where
      zero_d : (g : P S) (all : All 𝓥 (Divides 𝓥 g) (list B k)) → g ≡ 0ₚ → (dd S B k).0 ≡ L.ops.𝟎
      zero_d g ((a2, e₁), ((a0, e₂), t)) z = ap (λ t. t.0) (
          solve_by R (var 0 :* var 1 :+ minus (var 2 :* var 3)) zer (hyp (var 1) (var 0) (var 4 :* var 5) ∷ hyp (minus (var 3)) (var 2) (var 4 :* var 6) ∷ hyp (var 1 :* var 5 :+ minus (var 3 :* var 6)) (var 4) zer ∷ []) tt
          (x2 S B k ∷ y0 S B k ∷ x0 S B k ∷ y2 S B k ∷ g ∷ a2 ∷ a0 ∷ []) (e₁, (e₂, (z, tt))))

      fill : (g : P S) → (all : All 𝓥 (Divides 𝓥 g) (list B k)) → Comb 𝓥 (quots 𝓥 g (list B k) all) 1ₚ → Cut S B k
      fill g ((a2, e₁), ((a0, e₂), ((b0, e₃), ((b2, e₄), t)))) comb = record {
        g = g;
        a0 = a0;
        a2 = a2;
        b0 = b0;
        b2 = b2;
        x0_eq = e₂;
        x2_eq = e₁;
        y0_eq = e₃;
        y2_eq = e₄;
        alone = λ d d₁ d₂ d₃ d₄.
            let (q, e) = comb_divides 𝓥 d 1ₚ (a2 ∷ a0 ∷ b0 ∷ b2 ∷ []) 1ₚ comb (divides_mul 𝓥 d a2 1ₚ d₂, (divides_mul 𝓥 d a0 1ₚ d₁, (divides_mul 𝓥 d b0 1ₚ d₃, (divides_mul 𝓥 d b2 1ₚ d₄, tt)))) in
            (q, sym (R.laws.mul-one 1ₚ) ∙ e);
      }

      go : (g : P S) × Comb 𝓥 (list B k) g × All 𝓥 (Divides 𝓥 g) (list B k) → Cut S B k
      go (g, comb, all) =
          let (h, comb', e) = comb_quots 𝓥 g (list B k) all g comb in
          let (n, g_has) = degree 𝓥 g (λ z. nz (zero_d g all (P_path 𝓥 z))) in
          let h-one : h ≡ 1ₚ = p_cancel 𝓥 g h 1ₚ g_has (sym e ∙ sym (R.laws.mul-one g)) in
          fill g all (subst (Comb 𝓥 (quots 𝓥 g (list B k) all)) h-one comb')

  -- the pairs of P and Q are the four up to sign, and g divides d and the first rows: so g is the common factor of the seven of d, P, Q
  pub cut_greatest : (B : Basis S) (k : Parts S B) (c : Cut S B k) (d : P S) → Divides 𝓥 d (x0 S B k) → Divides 𝓥 d (x2 S B k) → Divides 𝓥 d (y0 S B k) → Divides 𝓥 d (y2 S B k) → Divides 𝓥 d c.g
  cut_greatest B k c d d₁ d₂ d₃ d₄ =
      let (h, comb, (e₁, (e₂, (e₃, (e₄, t))))) = gcds 𝓥 (c.a0 ∷ c.a2 ∷ c.b0 ∷ c.b2 ∷ []) in
      let (h', unit) = c.alone h e₁ e₂ e₃ e₄ in
      let (q, e) = comb_divides 𝓥 d c.g (c.a0 ∷ c.a2 ∷ c.b0 ∷ c.b2 ∷ []) h comb
      (subst (Divides 𝓥 d) c.x0_eq d₁, (subst (Divides 𝓥 d) c.x2_eq d₂, (subst (Divides 𝓥 d) c.y0_eq d₃, (subst (Divides 𝓥 d) c.y2_eq d₄, tt)))) in
      (q ⊠ h', sym (R.laws.mul-one c.g) ∙ ap (λ t. c.g ⊠ t) unit ∙ sym (R.laws.mul_assoc c.g h h') ∙ ap (λ t. t ⊠ h') e ∙ R.laws.mul_assoc d q h')
