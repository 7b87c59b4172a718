-- The norm of an element that has a value with a degree is not 0: such an element can be cancelled.
--   X_lt yz_lt         every size of an element is bounded
--   F F_deg F_mul      four times the value of the cofactor, 3Y² + Z²; where m v = a u, F(m) F(v) = 4 a² F(u)
--   yz_of X_of         Y and Z below n, from F below 2n; X below n, from ev and Z below n
--   Below below_of     all sizes below n: from F below 2n and ev below n
--   Q_deg norm_deg     the value of the cofactor, and the norm, have degrees
--   ev_deg             an element whose norm is not 0 has a degree
--   norm_sc            the norm of a polynomial is its cube
--   cancel_O           v x = v y gives x = y where the norm of v is not 0
--   M_not N_not        in a basis of rank 3 neither M nor N is a polynomial
use mathlib.Core.Path.{◌≡◌, sym, ap, ap₂, ◌∙◌}
use mathlib.Core.List.{[], ◌∷◌}
use mathlib.Core.Logic.{◌≢◌, ◌⊎◌, inl, inr}
use Prim.Native.Nat.{ℕ, ◌+◌ as ◌+ⁿ◌}
use native.Mathlib.Omega.{arith}
use Rattle.math_ring.proofs.Laws as rg
use Rattle.math_ring.proofs.Solve.{exprs, var, one, zer, minus, ◌:+◌, ◌:*◌, ◌:=◌, solve, ring₂, ring₃}
use Rattle.math_triple.specs.Tri.{tri_e, norm_t}
use Rattle.math_valued.specs.Degree.{HasDeg, Has, Lt}
use Rattle.math_valued.specs.Polynomial.{polys}
use Rattle.math_valued.proofs.Degree as d
use Rattle.math_valued.proofs.Compare.{lt_scale, lt_unscale, has_scale, has_unscale}
use Rattle.math_valued.proofs.Polynomial.{view, degree, not_zero, poly_lt}
use Rattle.math_ideals.specs.Setting.{Setting, P}
use Rattle.math_ideals.specs.Element.{O, sc, ev, X, Y, Z, norm, cof}
use Rattle.math_ideals.specs.Ideal.{Basis, det}
use Rattle.math_ideals.proofs.Sizes.{sc_cancel, ev_flat, ev_xz, Y_sc, Z_sc}
use Rattle.math_ideals.proofs.Values.{Q, Q_yz, Q_mul, ev_Q, norm_cof}
use Rattle.math_ideals.proofs.Form.{form, form_top, form_lt, has_two, has_three}
use Rattle.math_ideals.proofs.Bound.{Y_deg}

module _ (S : Setting) where
  open S use {𝓥}
  open S.roots use {G, H, r, w}
  open 𝓥 use {K, L, Lead}
  open L.ops use {add as ◌+◌, mul as ◌*◌, neg as -◌, 𝟎, 𝟏}
  open K.ops use {𝟎 as 0ᵏ}
  open (O S).ops use {add as ◌⊕◌, mul as ◌⊗◌}

  infixl 60 ◌+◌ ◌⊕◌
  infixl 70 ◌*◌ ◌⊗◌
  infix 80 -◌
  pub yz_lt : (v : (O S).El) → (j : ℕ) × Lt 𝓥 (Y S v) j × Lt 𝓥 (Z S v) j
  yz_lt v =
      let (i, ha) = poly_lt 𝓥 v.a in
      let (j, hb) = poly_lt 𝓥 v.b in
      let (k, hc) = poly_lt 𝓥 v.c in
      let m : ℕ = i +ⁿ (j +ⁿ S.roots.dr) +ⁿ (k +ⁿ S.roots.dw) in
      let A : Lt 𝓥 ((𝟏 + 𝟏) * v.a.0) m = d.lt_up 𝓥 m (d.lt_eq 𝓥 (d.lt_has_mul 𝓥 ha (has_two S)) (L.laws.mul_comm v.a.0 (𝟏 + 𝟏))) (omega arith) in
      let B : Lt 𝓥 (v.b.0 * r) m = d.lt_up 𝓥 m (d.lt_has_mul 𝓥 hb S.roots.r_deg) (omega arith) in
      let C : Lt 𝓥 (v.c.0 * w) m = d.lt_up 𝓥 m (d.lt_has_mul 𝓥 hc S.roots.w_deg) (omega arith) in
      (m, d.lt_add 𝓥 B (d.lt_neg 𝓥 C), d.lt_add 𝓥 (d.lt_add 𝓥 A (d.lt_neg 𝓥 B)) (d.lt_neg 𝓥 C))

  pub X_lt : (v : (O S).El) → (j : ℕ) × Lt 𝓥 (X S v) j
  X_lt v =
      let (j, hb) = poly_lt 𝓥 v.b in
      let (k, hc) = poly_lt 𝓥 v.c in
      let m : ℕ = (j +ⁿ S.roots.dr) +ⁿ (k +ⁿ S.roots.dw) in
      (m, d.lt_add 𝓥 (d.lt_up 𝓥 m (d.lt_has_mul 𝓥 hb S.roots.r_deg) (omega arith)) (d.lt_up 𝓥 m (d.lt_has_mul 𝓥 hc S.roots.w_deg) (omega arith)))

  -- ---- 4 times the value of the cofactor
  abbrev pub F : (O S).El → L.El
  F v = form S (Y S v) (Z S v)

  pub F_deg : {p q : ℕ} (v : (O S).El) → HasDeg 𝓥 (Q S v) p q → HasDeg 𝓥 (F v) p q
  F_deg v h = d.has_eq 𝓥 (has_scale 𝓥 (has_two S) (has_scale 𝓥 (has_two S) h)) (Q_yz S v)

  -- 4 a² F(u) = F(m) F(v) where m v = a u
  pub F_mul : (a : P S) (m v u : (O S).El) → m ⊗ v ≡ sc S a ⊗ u → F m * F v ≡ (𝟏 + 𝟏) * ((𝟏 + 𝟏) * (a.0 * a.0 * F u))
  F_mul a m v u e =
      ap₂ ◌*◌ (sym (Q_yz S m)) (sym (Q_yz S v)) ∙ ring₃ L (λ t x y. t :* (t :* x) :* (t :* (t :* y)) := t :* (t :* (t :* (t :* (x :* y))))) tt (𝟏 + 𝟏) (Q S m) (Q S v)
      ∙ ap (λ z. (𝟏 + 𝟏) * ((𝟏 + 𝟏) * z)) (ap (λ z. (𝟏 + 𝟏) * ((𝟏 + 𝟏) * z)) (sym (Q_mul S m v)) ∙ Q_yz S (m ⊗ v) ∙ ap (λ z. form S (Y S z) (Z S z)) e ∙ ap₂ (form S) (Y_sc S a u) (Z_sc S a u)
      ∙ ring₃ L (λ a y z. (one :+ one :+ one) :* (a :* y :* (a :* y)) :+ a :* z :* (a :* z) := a :* a :* ((one :+ one :+ one) :* (y :* y) :+ z :* z)) tt a.0 (Y S u) (Z S u))

  -- all sizes of v below n
  pub record Below (v : (O S).El) (n : ℕ) : Type 0 where
    pub X_lt : Lt 𝓥 (X S v) n
    pub Y_lt : Lt 𝓥 (Y S v) n
    pub Z_lt : Lt 𝓥 (Z S v) n

  pub yz_of : (v : (O S).El) (n : ℕ) → Lt 𝓥 (F v) (n +ⁿ n) → Lt 𝓥 (Y S v) n × Lt 𝓥 (Z S v) n
  yz_of v n hF = let (j, hy, hz) = yz_lt v in form_lt S j n (d.lt_up 𝓥 (j +ⁿ n) hy (omega arith)) (d.lt_up 𝓥 (j +ⁿ n) hz (omega arith)) hF

  -- 3X = 2 ev − Z
  pub X_of : (v : (O S).El) (n : ℕ) → Lt 𝓥 (ev S v) n → Lt 𝓥 (Z S v) n → Lt 𝓥 (X S v) n
  X_of v n he hz = lt_unscale 𝓥 (has_three S) (d.lt_eq 𝓥 (d.lt_add 𝓥 (lt_scale 𝓥 (has_two S) he) (d.lt_neg 𝓥 hz))
      (ap (λ t. t + - Z S v) (ev_xz S v) ∙ ring₂ L (λ x z. (one :+ one :+ one) :* x :+ z :+ minus z := (one :+ one :+ one) :* x) tt (X S v) (Z S v)))

  pub below_of : (v : (O S).El) (n : ℕ) → Lt 𝓥 (F v) (n +ⁿ n) → Lt 𝓥 (ev S v) n → Below v n
  below_of v n hF he = let (y, z) = yz_of v n hF in record { X_lt = X_of v n he z; Y_lt = y; Z_lt = z }

  -- Q of an element that is not a polynomial has an even degree
  pub Q_deg : (v : (O S).El) → (v.b.0 ≢ 𝟎) ⊎ (v.c.0 ≢ 𝟎) → (p q : ℕ) × HasDeg 𝓥 (Q S v) (p +ⁿ p) (q +ⁿ q)
  Q_deg v nz =
      let (p, q, h) = Y_deg S v nz in
      let (j, hy, hz) = yz_lt v in
      let (m, k) = form_top S (j +ⁿ q) h (d.lead_up 𝓥 (j +ⁿ q +ⁿ p) q hz (omega arith)) in
      (m +ⁿ p, q, has_unscale 𝓥 (has_two S) (has_unscale 𝓥 (has_two S) (d.has_eq 𝓥 k (sym (Q_yz S v)))))

  -- a non-zero norm, and cancelling
  pub norm_deg : {p q p' q' : ℕ} (v : (O S).El) → HasDeg 𝓥 (ev S v) p q → HasDeg 𝓥 (Q S v) p' q' → (n : ℕ) × Has 𝓥 (norm S v).0 n
  norm_deg v h g = degree 𝓥 (norm S v) (λ e. d.has_not_zero 𝓥 (d.has_eq 𝓥 (d.has_mul 𝓥 h g) (ev_Q S v ∙ e)))

  -- norm x = ev x · Q x, and where b = c = 0 the value is the polynomial a
  pub ev_deg : {k : ℕ} (v : (O S).El) → Has 𝓥 (norm S v).0 k → (p q : ℕ) × HasDeg 𝓥 (ev S v) p q
  ev_deg {k} v h = go (view 𝓥 v.b) (view 𝓥 v.c) (view 𝓥 v.a)
    where
      by_Q : (v.b.0 ≢ 𝟎) ⊎ (v.c.0 ≢ 𝟎) → (p q : ℕ) × HasDeg 𝓥 (ev S v) p q
      by_Q nz = let (p, q, g) = Q_deg v nz in (_, _, d.has_cancel 𝓥 g (d.has_eq 𝓥 h (sym (L.laws.mul_comm _ _ ∙ ev_Q S v))))

      go : (v.b.0 ≡ 𝟎) ⊎ ((n : ℕ) × Has 𝓥 v.b.0 n) → (v.c.0 ≡ 𝟎) ⊎ ((n : ℕ) × Has 𝓥 v.c.0 n) → (v.a.0 ≡ 𝟎) ⊎ ((n : ℕ) × Has 𝓥 v.a.0 n) →
          (p q : ℕ) × HasDeg 𝓥 (ev S v) p q
      go (inr (m, g)) y z = by_Q (inl (not_zero 𝓥 g))
      go (inl x) (inr (m, g)) z = by_Q (inr (not_zero 𝓥 g))
      go (inl x) (inl y) (inr (m, g)) = (m, 0, d.has_eq 𝓥 g (sym (ev_flat S v x y)))
      go (inl x) (inl y) (inl z) = absurd (not_zero 𝓥 h (sym (ev_Q S v) ∙ ap (λ t. t * Q S v) (ev_flat S v x y ∙ z) ∙ rg.zero_mul' L (Q S v)))

  pub norm_sc : (a : P S) → norm S (sc S a) ≡ (polys 𝓥).ops.mul ((polys 𝓥).ops.mul a a) a
  norm_sc a = solve (polys 𝓥) (norm_t exprs (var 0) (var 1) (tri_e (var 2) zer zer)) (var 2 :* var 2 :* var 2) tt (G ∷ H ∷ a ∷ [])

  pub cancel_O : {n : ℕ} (v x y : (O S).El) → Has 𝓥 (norm S v).0 n → v ⊗ x ≡ v ⊗ y → x ≡ y
  cancel_O v x y h e = sc_cancel S (norm S v) x y h (alone x ∙ ap (λ z. cof S v ⊗ z) e ∙ sym (alone y))
    where
      alone : (z : (O S).El) → sc S (norm S v) ⊗ z ≡ cof S v ⊗ (v ⊗ z)
      alone z = ap (λ t. t ⊗ z) (sym (norm_cof S v)) ∙ ring₃ (O S) (λ v c z. v :* c :* z := c :* (v :* z)) tt v (cof S v) z

  -- a basis of rank 3: M is not a polynomial, nor is N
  some_of : (v : (O S).El) → ((v.b.0 ≡ 𝟎) × (v.c.0 ≡ 𝟎) → ⊥) → (v.b.0 ≢ 𝟎) ⊎ (v.c.0 ≢ 𝟎)
  some_of v bad = go (view 𝓥 v.b) (view 𝓥 v.c)
    where
      go : (v.b.0 ≡ 𝟎) ⊎ ((n : ℕ) × Has 𝓥 v.b.0 n) → (v.c.0 ≡ 𝟎) ⊎ ((n : ℕ) × Has 𝓥 v.c.0 n) → (v.b.0 ≢ 𝟎) ⊎ (v.c.0 ≢ 𝟎)
      go (inr (n, k)) z = inl (λ e. d.has_not_zero 𝓥 (d.has_eq 𝓥 k e))
      go (inl x) (inr (n, k)) = inr (λ e. d.has_not_zero 𝓥 (d.has_eq 𝓥 k e))
      go (inl x) (inl y) = absurd (bad (x, y))

  pub flat_M : (B : Basis S) → (det S B).0 ≢ 𝟎 → (B.M.b.0 ≡ 𝟎) × (B.M.c.0 ≡ 𝟎) → ⊥
  flat_M B rank z = rank (ap₂ (λ s t. s * B.N.c.0 + - (t * B.N.b.0)) z.0 z.1 ∙ ring₂ L (λ s t. zer :* s :+ minus (zer :* t) := zer) tt B.N.c.0 B.N.b.0)

  pub flat_N : (B : Basis S) → (det S B).0 ≢ 𝟎 → (B.N.b.0 ≡ 𝟎) × (B.N.c.0 ≡ 𝟎) → ⊥
  flat_N B rank z = rank (ap₂ (λ s t. B.M.b.0 * t + - (B.M.c.0 * s)) z.0 z.1 ∙ ring₂ L (λ s t. s :* zer :+ minus (t :* zer) := zer) tt B.M.b.0 B.M.c.0)

  pub M_not : (B : Basis S) → (det S B).0 ≢ 𝟎 → (B.M.b.0 ≢ 𝟎) ⊎ (B.M.c.0 ≢ 𝟎)
  M_not B rank = some_of B.M (flat_M B rank)

  pub N_not : (B : Basis S) → (det S B).0 ≢ 𝟎 → (B.N.b.0 ≢ 𝟎) ⊎ (B.N.c.0 ≢ 𝟎)
  N_not B rank = some_of B.N (flat_N B rank)
