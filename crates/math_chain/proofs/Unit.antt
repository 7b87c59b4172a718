-- What the chain passed from the order to a closing is a unit, of even degree.
--   norm_eq Q_E half       for E F = 1: the norms are units, the cofactor's value has the opposite degree, and the degree is even
--   large                  a unit of positive degree: Y and Z lie below 0, and E0 has the degree of E
--   inverse_cof cof_inverse   F = cof(E)/N(E), and where N(E) is a unit that is the inverse
--   inverse_has inverse_unique   the inverse has the opposite degree, and it is one
--   closing_unit    the product at a closing has an inverse
--   unit_made              the unit as it is computed
--   unit_exists unit_unique   the unit of document 01 exists and is one; `unit_degree`: deg E0 = d, and d is even
--   unit_positive unit_rescaled   it is a unit of positive degree, and scaled by another convention it is the unit of that one
--   positive_scaling       a unit of positive degree has exactly one scaling under each convention
use mathlib.Core.Path.{◌≡◌, sym, ap, ap₂, ◌∙◌, subst}
use mathlib.Core.List.{[], ◌∷◌}
use mathlib.Core.Logic.{◌≢◌, ◌⊎◌, inl, inr}
use Prim.Native.Nat.{ℕ, ◌≤◌, ◌+◌ as ◌+ⁿ◌, ◌-◌ as ◌-ⁿ◌}
use native.Mathlib.Omega.{arith}
use Rattle.math_ring.proofs.Laws as rg
use Rattle.math_ring.specs.Ring.{CRing}
use Rattle.math_ring.proofs.Solve.{exprs, var, hyp, one, zer, minus, ◌:*◌, ◌:=◌, solve, solve_by, ring₃}
use Rattle.math_triple.specs.Tri.{tri_e, norm_t}
use Rattle.math_valued.specs.Degree.{HasDeg, Has, Lt, Leads}
use Rattle.math_valued.specs.Polynomial.{polys, IsUnit}
use Rattle.math_valued.proofs.Degree as d
use Rattle.math_valued.proofs.Compare.{has_scale, has_unscale}
use Rattle.math_valued.proofs.Polynomial.{view, unit_const, const_unit, not_zero}
use Rattle.math_ideals.specs.Setting.{Setting, P}
use Rattle.math_ideals.specs.Element.{O, sc, ev, Y, Z, norm, cof}
use Rattle.math_ideals.specs.Ideal.{Basis}
use Rattle.math_ideals.specs.Next.{Start}
use Rattle.math_ideals.proofs.Sizes.{sc_cancel, ev_sc, ev_flat, three_a}
use Rattle.math_ideals.proofs.Values.{Q, Q_yz, Q_mul, Q_one, ev_Q, ev_mul, ev_one, norm_mul, norm_cof, plain}
use Rattle.math_ideals.proofs.Form.{has_two, has_three, form_lt}
use Rattle.math_ideals.proofs.Lattice.{sc_mul}
use Rattle.math_ideals.proofs.Norm.{yz_lt, Q_deg}
use Rattle.math_chain.specs.Chain.{tops, bottoms, Product, Closing}
use Rattle.math_chain.specs.Convention.{Convention, e0_monic, Cubes, Scaled, PositiveUnit, OneScaling}
use Rattle.math_chain.specs.Unit.{Invertible, UnitOf}
use Rattle.math_chain.proofs.Scaling.{weigh, scale_unique, monic_exists, weight, one_scaling}
use Rattle.math_chain.proofs.Walk.{same_products, closing_unique, chain_room}
use Rattle.math_chain.proofs.Passed.{Passed, passed, bottoms_deg, product_scaled}

module _ (S : Setting) where
  open S use {𝓥}
  open S.roots use {G, H, r, w}
  open 𝓥 use {K, L, Lead}
  open L.ops use {add as ◌+◌, mul as ◌*◌, neg as -◌, 𝟎, 𝟏}
  open K.ops use {mul as ◌*ᵏ◌, 𝟎 as 0ᵏ, 𝟏 as 1ᵏ}
  open (polys 𝓥).ops use {add as ◌⊞◌, mul as ◌⊠◌, neg as ⊟◌, 𝟎 as 0ₚ, 𝟏 as 1ₚ}
  open (O S).ops use {add as ◌⊕◌, mul as ◌⊗◌, 𝟏 as 1ₒ}

  infixl 60 ◌+◌ ◌⊕◌ ◌⊞◌
  infixl 70 ◌*◌ ◌*ᵏ◌ ◌⊗◌ ◌⊠◌
  infix 80 -◌ ⊟◌
  abbrev R : CRing
  R = polys 𝓥

  -- ---- units of the order
  module _ (E F : (O S).El) (inverse : E ⊗ F ≡ 1ₒ) where
    pub norm_eq : 1ₚ ≡ norm S E ⊠ norm S F
    norm_eq = solve R one (norm_t exprs (var 0) (var 1) (tri_e one zer zer)) tt (G ∷ H ∷ []) ∙ ap (norm S) (sym inverse) ∙ norm_mul S E F

    pub norm_unit : IsUnit 𝓥 (norm S E)
    norm_unit = (norm S F, norm_eq)

    -- N(E) F = cof E
    pub inverse_cof : sc S (norm S E) ⊗ F ≡ cof S E
    inverse_cof =
        ap (λ t. t ⊗ F) (sym (norm_cof S E))
        ∙ solve_by (O S) (var 0 :* var 1 :* var 2) (var 1) (hyp (var 1) (var 0 :* var 2) one ∷ []) tt (E ∷ cof S E ∷ F ∷ []) (inverse, tt)

    -- of the opposite degree
    pub inverse_has : {p q : ℕ} → HasDeg 𝓥 (ev S E) p q → HasDeg 𝓥 (ev S F) q p
    inverse_has {p} {q} h = d.has_move 𝓥 q p (d.has_cancel 𝓥 h (d.has_eq 𝓥 (d.has_one 𝓥) (sym (sym (ev_mul S E F) ∙ ap (ev S) inverse ∙ ev_one S)))) (omega arith)

    -- one inverse
    pub inverse_unique : (F' : (O S).El) → E ⊗ F' ≡ 1ₒ → F ≡ F'
    inverse_unique F' e = solve_by (O S) (var 1) (var 2) (hyp (var 2) (var 0 :* var 1) one ∷ hyp (minus (var 1)) (var 0 :* var 2) one ∷ []) tt (E ∷ F ∷ F' ∷ []) (inverse, (e, tt))

  -- and back: an element whose norm is a unit has cof(E)/N(E) for its inverse
  pub cof_inverse : (E : (O S).El) (ν : P S) → 1ₚ ≡ norm S E ⊠ ν → E ⊗ (sc S ν ⊗ cof S E) ≡ 1ₒ
  cof_inverse E ν e =
      ring₃ (O S) (λ x v c. x :* (v :* c) := x :* c :* v) tt E (sc S ν) (cof S E)
      ∙ ap (λ t. t ⊗ sc S ν) (norm_cof S E) ∙ sym (sc_mul S (norm S E) ν) ∙ ap (sc S) (sym e)

  module _ (E F : (O S).El) {n : ℕ} (inverse : E ⊗ F ≡ 1ₒ) (E_deg : Has 𝓥 (ev S E) n) where
    -- ev(cof E) has the opposite degree, and ev(cof F) the degree itself
    pub Q_E : HasDeg 𝓥 (Q S E) 0 n
    Q_E = d.has_move 𝓥 0 n (d.has_cancel 𝓥 E_deg (d.has_eq 𝓥 (unit_const 𝓥 (norm S E) (norm_unit E F inverse)) (sym (ev_Q S E)))) (omega arith)

    pub Q_F : HasDeg 𝓥 (Q S F) n 0
    Q_F = d.has_move 𝓥 n 0 (d.has_cancel 𝓥 Q_E (d.has_eq 𝓥 (d.has_one 𝓥) (sym (sym (Q_mul S E F) ∙ ap (Q S) inverse ∙ Q_one S)))) (omega arith)

    pub half : (h : ℕ) × (n ≡ h +ⁿ h)
    half = go (view 𝓥 E.b) (view 𝓥 E.c)
      where
        other : (E.b.0 ≢ 𝟎) ⊎ (E.c.0 ≢ 𝟎) → (h : ℕ) × (n ≡ h +ⁿ h)
        other nz = let (p, q, k) = Q_deg S E nz in (q -ⁿ p, omega (arith, d.has_unique 𝓥 k Q_E))

        go : (E.b.0 ≡ 𝟎) ⊎ ((n : ℕ) × Has 𝓥 E.b.0 n) → (E.c.0 ≡ 𝟎) ⊎ ((n : ℕ) × Has 𝓥 E.c.0 n) → (h : ℕ) × (n ≡ h +ⁿ h)
        go (inr (m, k)) z = other (inl (not_zero 𝓥 k))
        go (inl x) (inr (m, k)) = other (inr (not_zero 𝓥 k))
        go (inl x) (inl y) =
            let a : Has 𝓥 E.a.0 n = d.has_eq 𝓥 E_deg (ev_flat S E x y) in
            let k : Has 𝓥 (Q S E) (n +ⁿ n) = d.has_eq 𝓥 (d.has_mul 𝓥 a a) (sym (ap₂ (λ s t. plain L.ops E.a.0 (s * r) (t * w)) x y ∙ ring₃ L (λ a r w. plain exprs a (zer :* r) (zer :* w) := a :* a) tt E.a.0 r w)) in
            (0, omega (arith, d.has_unique 𝓥 k Q_E))

    pub large : 1 ≤ n → Lt 𝓥 (Y S E) 0 × Lt 𝓥 (Z S E) 0 × Has 𝓥 E.a.0 n
    large l =
        let (j, hy, hz) = yz_lt S E in
        let f : HasDeg 𝓥 ((𝟏 + 𝟏) * ((𝟏 + 𝟏) * Q S E)) 0 n = has_scale 𝓥 (has_two S) (has_scale 𝓥 (has_two S) Q_E) in
        let (y, z) = form_lt S j 0 (d.lt_up 𝓥 (j +ⁿ 0) hy (omega arith)) (d.lt_up 𝓥 (j +ⁿ 0) hz (omega arith)) (d.lt_eq 𝓥 (𝓥.lead_up 0 0 f.2 (omega arith)) (Q_yz S E)) in
        (y, z, has_unscale 𝓥 (has_three S) (d.has_eq 𝓥 (d.has_lt 𝓥 E_deg (d.lt_up 𝓥 n z (omega arith))) (three_a S E)))

  pub unit_product : (a b : P S) → IsUnit 𝓥 a → IsUnit 𝓥 b → IsUnit 𝓥 (a ⊠ b)
  unit_product a b ua ub = const_unit 𝓥 (a ⊠ b) (d.has_mul 𝓥 (unit_const 𝓥 a ua) (unit_const 𝓥 b ub))

  -- ---- at a closing
  pub closing_unit : (B₀ : Basis S) (st : Start S B₀) {l n : ℕ} {B : Basis S} (c : Closing S B₀ l n B) → Invertible S (passed S B₀ st c.chain).E
  closing_unit B₀ st c =
      let p : Passed S c.chain = passed S B₀ st c.chain in
      let (F, i, f) = p.over.onto 1ₒ tt in
      (F, f ∙ ap (λ t. sc S t ⊗ 1ₒ) c.closed ∙ rg.one-mul (O S) 1ₒ)

  pub closing_pos : {l n : ℕ} {B : Basis S} (B₀ : Basis S) → Start S B₀ → Closing S B₀ l n B → 1 ≤ n
  closing_pos {l} B₀ st c = let (a, b) = chain_room S B₀ st.good c.chain in let some : 1 ≤ l = c.some in omega arith

  -- the unit of document 01
  pub unit_exists : (B₀ : Basis S) → Start S B₀ → {l n : ℕ} {B : Basis S} → Closing S B₀ l n B → (E : (O S).El) × (F : (O S).El) × UnitOf S e0_monic B₀ l n E F
  unit_exists B₀ st {B = B} c =
      let p : Passed S c.chain = passed S B₀ st c.chain in
      let (F, e) = closing_unit B₀ st c in
      let (y, z, (k, hk, h)) = large p.E F e p.E_deg (closing_pos B₀ st c) in
      let (s, (s', u), m) = monic_exists S p.E (norm_unit p.E F e) (_, 0, hk, h) in (
        sc S s ⊗ p.E,
        sc S s' ⊗ F,
        record {
          start = st;
          B = B;
          closing = c;
          scale = s;
          is_a_unit = (s', u);
          product = solve_by (O S) (var 0 :* (var 1 :* var 2)) (var 1 :* var 3) (hyp (var 1) (var 0 :* var 2) (var 3) ∷ []) tt (sc S (bottoms S c.chain) ∷ sc S s ∷ p.E ∷ tops S c.chain ∷ []) (p.product, tt);
          scaled = m;
          inverse = solve_by (O S) (var 0 :* var 1 :* (var 2 :* var 3)) one (hyp (var 0 :* var 2) (var 1 :* var 3) one ∷ hyp (minus one) one (var 0 :* var 2) ∷ []) tt (sc S s ∷ p.E ∷ sc S s' ∷ F ∷ []) (e, (ap (sc S) u ∙ sc_mul S s s', tt));
        },
      )

  -- the unit as it is computed: the product, scaled, and its cofactor over its norm
  pub unit_made : (k : Convention) (B₀ : Basis S) → Start S B₀ → {l n : ℕ} {B : Basis S} (c : Closing S B₀ l n B) (E₁ : (O S).El) (s ν : P S) → Product S c.chain E₁ → IsUnit 𝓥 s → Scaled S k (sc S s ⊗ E₁) →
      1ₚ ≡ norm S (sc S s ⊗ E₁) ⊠ ν → UnitOf S k B₀ l n (sc S s ⊗ E₁) (sc S ν ⊗ cof S (sc S s ⊗ E₁))
  unit_made k B₀ st {B = B} c E₁ s ν p us m e = record {
    start = st;
    B = B;
    closing = c;
    scale = s;
    is_a_unit = us;
    product = solve_by (O S) (var 0 :* (var 1 :* var 2)) (var 1 :* var 3) (hyp (var 1) (var 0 :* var 2) (var 3) ∷ []) tt (sc S (bottoms S c.chain) ∷ sc S s ∷ E₁ ∷ tops S c.chain ∷ []) (p, tt);
    scaled = m;
    inverse = cof_inverse (sc S s ⊗ E₁) ν e;
  }

  module _ (B₀ : Basis S) (st : Start S B₀) where
    -- it is a constant times the product
    pub unit_eq : {k : Convention} {l n : ℕ} {E F : (O S).El} (u : UnitOf S k B₀ l n E F) → E ≡ sc S u.scale ⊗ (passed S B₀ st u.closing.chain).E
    unit_eq {E = E} u = let c = u.closing.chain in product_scaled S c u.scale E (passed S B₀ st c).E u.product (passed S B₀ st c).product

    -- its degree is the degree sum, which is even, and E0 has it
    pub unit_degree : {k : Convention} {l n : ℕ} {E F : (O S).El} → UnitOf S k B₀ l n E F → Has 𝓥 (ev S E) n × Has 𝓥 E.a.0 n × (h : ℕ) × (n ≡ h +ⁿ h)
    unit_degree {n = n} {E} {F} u =
        let p : Passed S u.closing.chain = passed S B₀ st u.closing.chain in
        let h_e : Has 𝓥 (ev S E) n = d.has_eq 𝓥 (has_scale 𝓥 (unit_const 𝓥 u.scale u.is_a_unit) p.E_deg) (sym (ap (ev S) (unit_eq u) ∙ ev_sc S u.scale p.E)) in
        let (y, z, a) = large E F u.inverse h_e (closing_pos B₀ st u.closing) in
        let (h, e) = half E F u.inverse h_e in
        (h_e, a, h, e)

    pub unit_unique : {k : Convention} {l l' n n' : ℕ} {E E' F F' : (O S).El} → UnitOf S k B₀ l n E F → UnitOf S k B₀ l' n' E' F' → (l ≡ l') × (n ≡ n') × (E ≡ E') × (F ≡ F')
    unit_unique {k} {E = E} {E'} {F} {F'} u u' =
        let (e, f, g) = closing_unique S B₀ st.good u.closing u'.closing in
        let c = u.closing.chain in
        let c' = u'.closing.chain in
        let p : Passed S c = passed S B₀ st c in
        let p' : Passed S c' = passed S B₀ st c' in
        let (i, j) = same_products S B₀ st.good c c' e in
        let same : p.E ≡ p'.E = sc_cancel S (bottoms S c) p.E p'.E (bottoms_deg S c).1 (p.product ∙ i ∙ sym p'.product ∙ ap (λ t. sc S t ⊗ p'.E) (sym j)) in
        let e_e : E ≡ sc S u.scale ⊗ p.E = unit_eq u in
        let eE' : E' ≡ sc S u'.scale ⊗ p.E = unit_eq u' ∙ ap (λ t. sc S u'.scale ⊗ t) (sym same) in
        let (F₁, i₁) = closing_unit B₀ st u.closing in
        let (y, z, (a, ha, h)) = large p.E F₁ i₁ p.E_deg (closing_pos B₀ st u.closing) in
        let (c₁, w₁) = weight S k p.E (norm_unit p.E F₁ i₁) (_, 0, ha, h) in
        let s-eq : u.scale ≡ u'.scale = scale_unique S k p.E u.scale u'.scale w₁ u.is_a_unit u'.is_a_unit (subst (Scaled S k) e_e u.scaled) (subst (Scaled S k) eE' u'.scaled) in
        let E-eq : E ≡ E' = e_e ∙ ap (λ t. sc S t ⊗ p.E) s-eq ∙ sym eE' in
        (e, f, E-eq, inverse_unique E F u.inverse F' (ap (λ t. t ⊗ F') E-eq ∙ u'.inverse))

    pub unit_positive : {k : Convention} {l n : ℕ} {E F : (O S).El} → UnitOf S k B₀ l n E F → PositiveUnit S E F
    unit_positive {n = n} u = record { inverse = u.inverse; degree = n; has = (unit_degree u).0; positive = closing_pos B₀ st u.closing }

    -- the unit of one convention, scaled by another
    pub unit_rescaled : {k : Convention} (k' : Convention) {l n : ℕ} {E F : (O S).El} (s : P S) (F' : (O S).El) → UnitOf S k B₀ l n E F → IsUnit 𝓥 s → Scaled S k' (sc S s ⊗ E) → sc S s ⊗ E ⊗ F' ≡ 1ₒ → UnitOf S k' B₀ l n (sc S s ⊗ E) F'
    unit_rescaled k' {E = E} s F' u us m i = record {
      start = u.start;
      B = u.B;
      closing = u.closing;
      scale = s ⊠ u.scale;
      is_a_unit = unit_product s u.scale us u.is_a_unit;
      product = ring₃ (O S) (λ b s e. b :* (s :* e) := s :* (b :* e)) tt (sc S (bottoms S u.closing.chain)) (sc S s) E
          ∙ ap (λ t. sc S s ⊗ t) u.product
          ∙ ring₃ (O S) (λ s c t. s :* (c :* t) := s :* c :* t) tt (sc S s) (sc S u.scale) (tops S u.closing.chain)
          ∙ ap (λ t. t ⊗ tops S u.closing.chain) (sym (sc_mul S s u.scale));
      scaled = m;
      inverse = i;
    }

  -- ---- scalings
  pub positive_norm : {E F : (O S).El} → PositiveUnit S E F → IsUnit 𝓥 (norm S E)
  positive_norm {E} {F} u = norm_unit E F u.inverse

  -- E0 is not 0
  pub positive_top : {E F : (O S).El} (u : PositiveUnit S E F) → Has 𝓥 E.a.0 u.degree
  positive_top {E} {F} u = let (y, z, a) = large E F u.inverse u.has u.positive in a

  pub positive_weight : (k : Convention) {E F : (O S).El} → PositiveUnit S E F → (c : K.El) × Leads 𝓥 (weigh S k E) c
  positive_weight k {E} u = let (c, hc, h) = positive_top u in weight S k E (positive_norm u) (_, 0, hc, h)

  pub positive_scaling : Cubes K → (k : Convention) {E F : (O S).El} → PositiveUnit S E F → OneScaling S k E
  positive_scaling cubes k {E} u = let (c, hc, h) = positive_top u in one_scaling S cubes k E (positive_norm u) (_, 0, hc, h)
