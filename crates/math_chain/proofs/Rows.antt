-- How long the rows of the unit, of its inverse, and of the products on the way are.
--   unit_rows      deg E = n = 2h: rows of E have degree at most n, rows of F at most h
--   unit_fits      so c coefficients hold all six rows exactly where c ≥ n + 1
--   product_rows   the product of the m passed: rows of degree at most its degree n, and E0 of degree n
--   norm_product   N(E) e = U² times a unit
--   U_below        so after a step deg U < deg E: numerators before the exact division by U are shorter than twice the product
use mathlib.Core.Path.{◌≡◌, sym, ap, ap₂, ◌∙◌}
use mathlib.Core.List.{[], ◌∷◌}
use Prim.Native.Nat.{ℕ, suc, ◌≤◌, ◌<◌, ◌+◌ as ◌+ⁿ◌}
use native.Mathlib.Omega.{arith}
use Rattle.math_ring.proofs.Laws as rg
use Rattle.math_ring.specs.Ring.{CRing}
use Rattle.math_ring.proofs.Solve.{Expr, exprs, var, minus, ◌:+◌, ◌:*◌, ◌:=◌, solve, ring₃}
use Rattle.math_triple.specs.Tri.{Tri, tri_e, norm_t}
use Rattle.math_triple.specs.Order.{triops}
use Rattle.math_triple.specs.Mat3 as Mt
use Rattle.math_valued.specs.Degree.{Has, Lt}
use Rattle.math_valued.specs.Polynomial.{polys}
use Rattle.math_valued.proofs.Degree as d
use Rattle.math_valued.proofs.Compare.{lt_unscale, has_unscale}
use Rattle.math_valued.proofs.Polynomial.{degree, unit_const, not_zero}
use Rattle.math_ideals.specs.Setting.{Setting}
use Rattle.math_ideals.specs.Element.{O, sc, ev, norm}
use Rattle.math_ideals.specs.Ideal.{Basis, det}
use Rattle.math_ideals.specs.Next.{Start}
use Rattle.math_ideals.proofs.Sizes.{sc_e, two_a, two_b, two_c, three_a}
use Rattle.math_ideals.proofs.Values.{Q, Q_yz, ev_Q}
use Rattle.math_ideals.proofs.Form.{has_two, has_three, form_below}
use Rattle.math_ideals.proofs.Lattice.{in_M, in_N}
use Rattle.math_ideals.proofs.Norm.{F_deg, yz_of, Below, below_of}
use Rattle.math_ideals.proofs.Degrees.{Small, small, lt_off}
use Rattle.math_chain.specs.Chain.{Chain}
use Rattle.math_chain.specs.Convention.{Convention}
use Rattle.math_chain.specs.Unit.{Fit, UnitOf}
use Rattle.math_chain.proofs.Walk.{chain_good}
use Rattle.math_chain.proofs.Passed.{Passed, passed, rows, spans}
use Rattle.math_chain.proofs.Unit.{large, Q_F, inverse_has, closing_pos, unit_degree}

module _ (S : Setting) where
  open S use {𝓥}
  open S.roots use {G, H, r, w}
  open 𝓥 use {K, L, Lead}
  open L.ops use {add as ◌+◌, mul as ◌*◌, neg as -◌, 𝟎, 𝟏}
  open (polys 𝓥).ops use {mul as ◌⊠◌}
  open (O S).ops use {mul as ◌⊗◌, 𝟏 as 1ₒ}

  infixl 60 ◌+◌
  infixl 70 ◌*◌ ◌⊗◌ ◌⊠◌
  infix 80 -◌
  abbrev R : CRing
  R = polys 𝓥

  pub fit_below : (v : (O S).El) (m : ℕ) → Below S v m → Fit S m v
  fit_below v m b = record {
    a_lt = lt_unscale 𝓥 (has_two S) (d.lt_eq 𝓥 (d.lt_add 𝓥 b.X_lt b.Z_lt) (two_a S v));
    b_lt = lt_off S S.roots.r_deg (lt_unscale 𝓥 (has_two S) (d.lt_eq 𝓥 (d.lt_add 𝓥 b.X_lt b.Y_lt) (two_b S v)));
    c_lt = lt_off S S.roots.w_deg (lt_unscale 𝓥 (has_two S) (d.lt_eq 𝓥 (d.lt_add 𝓥 b.X_lt (d.lt_neg 𝓥 b.Y_lt)) (two_c S v)));
  }

  pub fit_up : {m : ℕ} (n : ℕ) (v : (O S).El) → m ≤ n → Fit S m v → Fit S n v
  fit_up n v l f = record { a_lt = d.lt_up 𝓥 n f.a_lt l; b_lt = d.lt_up 𝓥 n f.b_lt l; c_lt = d.lt_up 𝓥 n f.c_lt l }

  pub unit_rows : (E F : (O S).El) (n h : ℕ) → E ⊗ F ≡ 1ₒ → Has 𝓥 (ev S E) n → 1 ≤ n → n ≡ h +ⁿ h → Fit S (suc n) E × Fit S (suc h) F
  unit_rows E F' n h inverse h_e l e =
      let (y, z, a) = large S E F' inverse h_e l in (
        fit_below E (suc n) (below_of S E (suc n) (d.lt_up 𝓥 (suc n +ⁿ suc n) (form_below S y z) (omega arith)) (d.has_up 𝓥 (suc n) h_e (omega arith))),
        fit_below F' (suc h) (below_of S F' (suc h) (𝓥.lead_up (suc h +ⁿ suc h) 0 (F_deg S F' (Q_F S E F' inverse h_e)).2 (omega arith)) (𝓥.lead_up (suc h) 0 (inverse_has S E F' inverse h_e).2 (omega arith))),
      )

  pub unit_fits : (B₀ : Basis S) → Start S B₀ → {k : Convention} {l n : ℕ} {E F : (O S).El} → UnitOf S k B₀ l n E F → (c : ℕ) → (n < c → Fit S c E × Fit S c F) × (Fit S c E → n < c)
  unit_fits B₀ st {n = n} {E = E} {F = F'} u c =
      let (h_e, hA, h, e) = unit_degree S B₀ st u in
      let (fE, fF) = unit_rows E F' n h u.inverse h_e (closing_pos S B₀ st u.closing) e in (
        λ l. (fit_up c E (omega arith) fE, fit_up c F' (omega arith) fF),
        λ f. d.above 𝓥 hA f.a_lt,
      )

  -- ---- the products on the way
  pub product_rows : (B₀ : Basis S) (st : Start S B₀) {s n : ℕ} {B : Basis S} (c : Chain S B₀ s n B) → Fit S (suc n) (passed S B₀ st c).E × (1 ≤ s → Has 𝓥 (passed S B₀ st c).E.a.0 n)
  product_rows B₀ st {n = n} c =
      let p : Passed S c = passed S B₀ st c in (
        fit_below p.E (suc n) (below_of S p.E (suc n) (d.lt_up 𝓥 (suc n +ⁿ suc n) p.low (omega arith)) (d.has_up 𝓥 (suc n) p.E_deg (omega arith))),
        λ l. let (y, z) = yz_of S p.E 0 (d.lt_up 𝓥 (0 +ⁿ 0) (p.below l) (omega arith)) in
            has_unscale 𝓥 (has_three S) (d.has_eq 𝓥 (d.has_lt 𝓥 p.E_deg (d.lt_up 𝓥 n z (omega arith))) (three_a S p.E)),
      )

  open triops exprs (var 0) (var 1) use {mul as ◌:⊗◌}

  infixl 70 ◌:⊗◌
  -- N(E) e = U² times the determinant of E, E m, E n
  pub norm_product : (B : Basis S) (E Em En : (O S).El) → E ⊗ B.M ≡ sc S B.U ⊗ Em → E ⊗ B.N ≡ sc S B.U ⊗ En → norm S E ⊠ det S B ≡ B.U ⊠ B.U ⊠ Mt.det R.ops (rows S E Em En)
  norm_product B E Em En f g =
      solve R (norm_t exprs (var 0) (var 1) e :* (var 6 :* var 10 :+ minus (var 7 :* var 9))) (det_e e (e :⊗ m) (e :⊗ n)) tt
      (G ∷ H ∷ E.a ∷ E.b ∷ E.c ∷ B.M.a ∷ B.M.b ∷ B.M.c ∷ B.N.a ∷ B.N.b ∷ B.N.c ∷ [])
      ∙ ap₂ (λ x y. Mt.det R.ops (rows S E x y)) f g
      ∙ solve R (det_e e (sc_e (var 11) :⊗ m) (sc_e (var 11) :⊗ n)) (var 11 :* var 11 :* det_e e m n) tt
      (G ∷ H ∷ E.a ∷ E.b ∷ E.c ∷ Em.a ∷ Em.b ∷ Em.c ∷ En.a ∷ En.b ∷ En.c ∷ B.U ∷ [])
    where
      e : Tri Expr
      e = tri_e (var 2) (var 3) (var 4)

      m : Tri Expr
      m = tri_e (var 5) (var 6) (var 7)

      n : Tri Expr
      n = tri_e (var 8) (var 9) (var 10)

      det_e : Tri Expr → Tri Expr → Tri Expr → Expr
      det_e x y z = Mt.det exprs (record { a₁ = x.a; a₂ = x.b; a₃ = x.c; b₁ = y.a; b₂ = y.b; b₃ = y.c; c₁ = z.a; c₂ = z.b; c₃ = z.c })

  -- deg N(E) = 2 deg U − deg e is at least deg U, and below deg E after a step
  pub U_below : {u : ℕ} (B₀ : Basis S) → Start S B₀ → {s n : ℕ} {B : Basis S} (c : Chain S B₀ s n B) → 1 ≤ s → Has 𝓥 B.U.0 u → u < n
  U_below {u} B₀ st {s} {n} {B} c l hU =
      let p : Passed S c = passed S B₀ st c in
      let t : Small S B = small S B (chain_good S B₀ st.good c) in
      let (Em, t₁, f) = p.over.into B.M (in_M S B) in
      let (En, t₂, g) = p.over.into B.N (in_N S B) in
      let unit = (spans S B p.E Em En hU p.over f g).unit in
      let h : Has 𝓥 (norm S p.E ⊠ det S B).0 (u +ⁿ u +ⁿ 0) = d.has_eq 𝓥 (d.has_mul 𝓥 (d.has_mul 𝓥 hU hU) (unit_const 𝓥 _ unit)) (sym (ap (λ z. z.0) (norm_product B p.E Em En f g))) in
      let (ν, hν) = degree 𝓥 (norm S p.E) (λ z. not_zero 𝓥 h (ap (λ y. y * (det S B).0) z ∙ rg.zero_mul' L (det S B).0)) in
      let e : u +ⁿ u +ⁿ 0 ≡ ν +ⁿ t.ε = d.same 𝓥 h (d.has_mul 𝓥 hν t.e_has) in
      let same : t.u ≡ u = d.same 𝓥 t.U_has hU in
      let ε≤u : t.ε ≤ t.u = t.ε≤u in
      let k : Lt 𝓥 (norm S p.E).0 n = lt_unscale 𝓥 (has_two S) (lt_unscale 𝓥 (has_two S) (d.lt_eq 𝓥 (d.lt_up 𝓥 n (d.lt_has_mul 𝓥 (p.below l) p.E_deg) (omega arith))
      (ap (λ z. z * ev S p.E) (sym (Q_yz S p.E)) ∙ ring₃ L (λ t q e. t :* (t :* q) :* e := t :* (t :* (e :* q))) tt (𝟏 + 𝟏) (Q S p.E) (ev S p.E) ∙ ap (λ z. (𝟏 + 𝟏) * ((𝟏 + 𝟏) * z)) (ev_Q S p.E)))) in
      omega (arith, d.above 𝓥 hν k)
