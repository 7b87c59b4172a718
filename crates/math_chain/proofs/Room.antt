-- d is not 0, and how large the pairs are from which the reduction starts.
--   Room room    with s = deg GH − deg g and u the degree of d/g: P and Q, without g, have sizes at most a and b, where a + b = s + u is
--                the degree of their determinant X(P) Y(Q) − X(Q) Y(P); u < a < s and u < b < s
--   d_deg d_not_zero   deg d, and that d is not 0
-- So deg X(P) + deg Y(Q) and deg X(Q) + deg Y(P) are at most s + u, and deg d ≤ deg GH − 2.
use mathlib.Core.Path.{◌≡◌, sym, ap, ◌∙◌}
use mathlib.Core.Logic.{◌≢◌, inl}
use mathlib.Core.List.{[], ◌∷◌}
use Prim.Native.Nat.{ℕ, suc, ◌≤◌, ◌<◌, ◌+◌ as ◌+ⁿ◌, ◌-◌ as ◌-ⁿ◌}
use native.Mathlib.Omega.{arith}
use Rattle.math_ring.proofs.Laws as rg
use Rattle.math_ring.proofs.Solve.{Expr, var, one, zer, minus, ◌:+◌, ◌:*◌, solve}
use Rattle.math_valued.specs.Degree.{HasDeg, Has, Lt}
use Rattle.math_valued.specs.Polynomial.{polys}
use Rattle.math_valued.proofs.Degree as d
use Rattle.math_valued.proofs.Compare.{has_scale, lt_scale, lt_unscale}
use Rattle.math_valued.proofs.Polynomial.{degree, factor, not_zero}
use Rattle.math_ideals.specs.Setting.{Setting, P, d_gh}
use Rattle.math_ideals.specs.Element.{O, sc, ev, X, Y, norm}
use Rattle.math_ideals.specs.Ideal.{Basis, det}
use Rattle.math_ideals.specs.Basis.{Good}
use Rattle.math_ideals.proofs.Sizes.{X_Y_det, ev_sc, ev_xz, ev_poly}
use Rattle.math_ideals.proofs.Values.{Q, ev_Q, ev_mul}
use Rattle.math_ideals.proofs.Form.{form_has, form_below, has_two, has_three}
use Rattle.math_ideals.proofs.Norm.{F, F_deg, F_mul, Q_deg, M_not, Below, below_of}
use Rattle.math_ideals.proofs.Degrees.{Small, small}
use Rattle.math_ideals.proofs.Divided.{ev_M}
use Rattle.math_chain.specs.Parts.{Parts, Cut, dd, base}
use Rattle.math_chain.proofs.Parts.{d_norm, base_d, base_det, base_M, base_N}

module _ (S : Setting) where
  open S use {𝓥}
  open S.roots use {G, H, r, w}
  open 𝓥 use {K, L, Lead}
  open L.ops use {add as ◌+◌, mul as ◌*◌, neg as -◌, 𝟎, 𝟏}
  open (polys 𝓥).ops use {mul as ◌⊠◌}
  open (O S).ops use {mul as ◌⊗◌}

  infixl 60 ◌+◌
  infixl 70 ◌*◌ ◌⊗◌ ◌⊠◌
  infix 80 -◌
  pub record Room (B : Basis S) (k : Parts S B) (c : Cut S B k) : Type 0 where
    pub γ : ℕ
    pub s : ℕ
    pub u : ℕ
    pub a : ℕ
    pub b : ℕ
    pub g_has : Has 𝓥 c.g.0 γ
    pub d_has : Has 𝓥 (base S B k c).U.0 u
    pub whole : s +ⁿ γ ≡ d_gh S
    pub sum : a +ⁿ b ≡ s +ⁿ u
    pub u<a : u < a
    pub u<b : u < b
    pub P_below : Below S (base S B k c).M (suc a)
    pub Q_below : Below S (base S B k c).N (suc b)
    pub rank : (det S (base S B k c)).0 ≢ 𝟎
    pub det_has : Has 𝓥 (X S (base S B k c).M * Y S (base S B k c).N + - (X S (base S B k c).N * Y S (base S B k c).M)) (s +ⁿ u)

  -- m v = a u: the degree of F(v)
  F_quot : {u f : ℕ} (p q : ℕ) (a : P S) (m v t : (O S).El) → m ⊗ v ≡ sc S a ⊗ t → HasDeg 𝓥 (F S m) (p +ⁿ p) (q +ⁿ q) → Has 𝓥 a.0 u → Has 𝓥 (F S t) f → HasDeg 𝓥 (F S v) (q +ⁿ q +ⁿ (u +ⁿ u +ⁿ f)) (p +ⁿ p)
  F_quot {u} {f} p q a m v t e hm ha ht =
      d.has_move 𝓥 _ _ (d.has_cancel 𝓥 hm (d.has_eq 𝓥 (has_scale 𝓥 (has_two S) (has_scale 𝓥 (has_two S) (d.has_mul 𝓥 (d.has_mul 𝓥 ha ha) ht))) (sym (F_mul S a m v t e)))) (omega arith)

  -- F of a polynomial is 4 a²
  F_poly : (a : P S) → (𝟏 + 𝟏) * ((𝟏 + 𝟏) * (a.0 * a.0)) ≡ F S (sc S a)
  F_poly a = solve L ((one :+ one) :* ((one :+ one) :* (var 0 :* var 0))) ((one :+ one :+ one) :* (y_e :* y_e) :+ z_e :* z_e) tt (a.0 ∷ r ∷ w ∷ [])
    where
      y_e : Expr
      y_e = zer :* var 1 :+ minus (zer :* var 2)

      z_e : Expr
      z_e = (one :+ one) :* var 0 :+ minus (zer :* var 1) :+ minus (zer :* var 2)

  -- deg d = deg GH − ν + 2μ: with p − q = max(deg Y(M), deg Z(M)) = μ + deg U < deg U, and y = deg Y(N) = ν + deg U
  pub d_deg : (B : Basis S) (good : Good S B) (k : Parts S B) (s : Small S B) (p q : ℕ) → HasDeg 𝓥 (Q S B.M) (p +ⁿ p) (q +ⁿ q) →
      (δ : ℕ) × Has 𝓥 (dd S B k).0 δ × (δ +ⁿ (s.u +ⁿ s.y) +ⁿ (q +ⁿ q) ≡ d_gh S +ⁿ (p +ⁿ p)) × (p < s.u +ⁿ q)
  d_deg B good k s p q hQ =
      let hN : HasDeg 𝓥 (norm S B.M).0 (s.x +ⁿ (p +ⁿ p)) (0 +ⁿ (q +ⁿ q)) = d.has_eq 𝓥 (d.has_mul 𝓥 (ev_M S B s) hQ) (ev_Q S B.M) in
      let e : (dd S B k ⊠ (det S B ⊠ B.U)).0 ≡ (norm S B.M).0 = ap (λ z. z.0) (d_norm S B k good.ideal.rank) in
      let (δ, hd) = degree 𝓥 (dd S B k) (λ z. not_zero 𝓥 hN (sym e ∙ ap (λ t. t * (det S B ⊠ B.U).0) z ∙ rg.zero_mul' L (det S B ⊠ B.U).0)) in
      let h : Has 𝓥 (norm S B.M).0 (δ +ⁿ (s.ε +ⁿ s.u)) = d.has_eq 𝓥 (d.has_mul 𝓥 hd (d.has_mul 𝓥 s.e_has s.U_has)) e in
      let e₁ : s.x +ⁿ (p +ⁿ p) +ⁿ 0 ≡ δ +ⁿ (s.ε +ⁿ s.u) +ⁿ (0 +ⁿ (q +ⁿ q)) = d.has_unique 𝓥 hN h in
      let sum : s.x +ⁿ s.y ≡ s.ε +ⁿ d_gh S = s.sum in
      let low : p +ⁿ p +ⁿ 0 < s.u +ⁿ s.u +ⁿ (q +ⁿ q) = d.has_above 𝓥 (F_deg S B.M hQ) (form_below S s.Y_M s.Z_M) in
      (δ, hd, omega arith, omega arith)

  pub d_not_zero : (B : Basis S) → Good S B → (k : Parts S B) → (dd S B k).0 ≢ 𝟎
  d_not_zero B good k = let (p, q, hQ) = Q_deg S B.M (M_not S B good.ideal.rank) in not_zero 𝓥 (d_deg B good k (small S B good) p q hQ).1

  pub room : (B : Basis S) → Good S B → (k : Parts S B) (c : Cut S B k) → Room B k c
  room B good k c = go (small S B good) (Q_deg S B.M (M_not S B good.ideal.rank))
    where
      B₀ : Basis S
      B₀ = base S B k c

      go : Small S B → (p q : ℕ) × HasDeg 𝓥 (Q S B.M) (p +ⁿ p) (q +ⁿ q) → Room B k c
      go s (p, q, hQ) =
          let (δ, hd, e₁, low) = d_deg B good k s p q hQ in
          let rk : (det S B).0 ≢ 𝟎 = good.ideal.rank in
          let (γ, hg) = degree 𝓥 c.g (λ z. not_zero 𝓥 hd (sym (ap (λ t. t.0) (base_d S B k rk c)) ∙ ap (λ t. t * B₀.U.0) z ∙ rg.zero_mul' L B₀.U.0)) in
          let (u', hu, e₂) = factor 𝓥 c.g B₀.U (dd S B k) hg hd (sym (base_d S B k rk c)) in
          let rank₀ : (det S B₀).0 ≢ 𝟎 = λ z. not_zero 𝓥 (d.has_neg 𝓥 hu) (sym (ap (λ t. t.0) (base_det S B k rk c)) ∙ ap (λ t. c.g.0 * t) z ∙ rg.mul-zero L c.g.0) in
          let (ε₀, hε) = degree 𝓥 (det S B₀) rank₀ in
          let e₃ : γ +ⁿ ε₀ ≡ u' = d.same 𝓥 (d.has_eq 𝓥 (d.has_mul 𝓥 hg hε) (ap (λ t. t.0) (base_det S B k rk c))) (d.has_neg 𝓥 hu) in
          let hF : HasDeg 𝓥 (F S B.M) (p +ⁿ p) (q +ⁿ q) = F_deg S B.M hQ in
          let u≤y : s.u ≤ s.y = s.u≤y in
          let u<x : s.u < s.x = s.u<x in
          let a : ℕ = (u' +ⁿ s.u +ⁿ q) -ⁿ p in
          let b : ℕ = (u' +ⁿ s.y +ⁿ q) -ⁿ p in
          let FU : Has 𝓥 (F S (sc S B.U)) (s.u +ⁿ s.u) = d.has_eq 𝓥 (has_scale 𝓥 (has_two S) (has_scale 𝓥 (has_two S) (d.has_mul 𝓥 s.U_has s.U_has))) (F_poly B.U) in
          let FN : Has 𝓥 (F S B.N) (s.y +ⁿ s.y) = form_has S s.Y_N.2 (d.lt_up 𝓥 s.y s.Z_N u≤y) (inl s.Y_N.1) in
          let FP = F_quot p q B₀.U B.M B₀.M (sc S B.U) (base_M S B k rk c) hF hu FU in
          let FQ = F_quot p q B₀.U B.M B₀.N B.N (base_N S B k rk c) hF hu FN in
          let evP : HasDeg 𝓥 (ev S B₀.M) (u' +ⁿ s.u) s.x = d.has_move 𝓥 _ _ (d.has_cancel 𝓥 (ev_M S B s) (d.has_eq 𝓥 (d.has_mul 𝓥 hu s.U_has)
          (sym (sym (ev_mul S B.M B₀.M) ∙ ap (ev S) (base_M S B k rk c) ∙ ev_sc S B₀.U (sc S B.U) ∙ ap (λ t. B₀.U.0 * t) (ev_poly S B.U))))) (omega arith) in
          let evN : Lt 𝓥 (ev S B.N) s.x = lt_unscale 𝓥 (has_two S) (d.lt_eq 𝓥 (d.lt_add 𝓥 (lt_scale 𝓥 (has_three S) s.X_N) (d.lt_up 𝓥 s.x s.Z_N (omega arith))) (sym (ev_xz S B.N))) in
          let evQ : Lt 𝓥 (ev S B₀.N) u' = d.lt_cancel 𝓥 u' (ev_M S B s) (d.lt_eq 𝓥 (d.lt_has_mul 𝓥 evN hu)
          (L.laws.mul_comm _ _ ∙ sym (ev_sc S B₀.U B.N) ∙ sym (ap (ev S) (base_N S B k rk c)) ∙ ev_mul S B.M B₀.N)) in
          record {
            γ = γ;
            s = d_gh S -ⁿ γ;
            u = u';
            a = a;
            b = b;
            g_has = hg;
            d_has = hu;
            whole = omega arith;
            sum = omega arith;
            u<a = omega arith;
            u<b = omega arith;
            P_below = below_of S B₀.M (suc a) (𝓥.lead_up (suc a +ⁿ suc a) 0 FP.2 (omega arith)) (𝓥.lead_up (suc a) 0 evP.2 (omega arith));
            Q_below = below_of S B₀.N (suc b) (𝓥.lead_up (suc b +ⁿ suc b) 0 FQ.2 (omega arith)) (d.lt_up 𝓥 (suc b) evQ (omega arith));
            rank = rank₀;
            det_has = d.has_move 𝓥 _ 0 (d.has_eq 𝓥 (d.has_neg 𝓥 (has_scale 𝓥 (has_two S) (d.has_mul 𝓥 hε (d.has_mul 𝓥 S.roots.G_deg S.roots.H_deg)))) (sym (X_Y_det S B₀))) (omega arith);
          }
