-- Polynomials and their degrees.
--   P_path                 equal as series is equal
--   view degree poly_lt    a polynomial is 0 or has a degree
--   poly_discrete          equality of polynomials is decided
--   factor                 the degree of a factor
--   one_of                 a constant between two monic elements of one leading coefficient is 1
--   Unit₀ unit_of          the constant polynomial of a constant that is not 0, with its inverse
--   unit_const const_unit  the units are the constants that are not 0
--   mono divide            division with remainder, of series by a series that has a degree, one term at a time
use mathlib.Core.Path.{◌≡◌, refl, sym, ap, ◌∙◌, subst}
use mathlib.Core.Logic.{◌≢◌, ◌⊎◌, inl, inr}
use Prim.Native.Nat.{ℕ, zero, suc, ◌+◌ as ◌+ⁿ◌}
use native.Mathlib.Omega.{arith}
use Rattle.math_ring.proofs.Laws as r
use Rattle.math_ring.specs.Subring.{sub_path}
use Rattle.math_ring.proofs.Solve.{one, zer, minus, ◌:+◌, ◌:*◌, ◌:=◌, ring₁, ring₂, ring₃, ring₄}
use Rattle.math_valued.specs.Val.{Valued}
use Rattle.math_valued.specs.Degree.{HasDeg, Has, Lt, Leads}
use Rattle.math_valued.specs.Polynomial.{polys, Poly, IsUnit}
use Rattle.math_valued.proofs.Degree as d
use Rattle.math_valued.proofs.Compare.{leads_unique, leads_mul, k_zero}

module _ (𝓥 : Valued) where
  open 𝓥 use {K, L, Lead}
  open L.ops use {add as ◌+◌, mul as ◌*◌, neg as -◌, 𝟎, 𝟏}
  open K.ops use {add as ◌+ᵏ◌, mul as ◌*ᵏ◌, neg as -ᵏ◌, 𝟎 as 0ᵏ, 𝟏 as 1ᵏ}
  open (polys 𝓥).ops use {add as ◌⊞◌, mul as ◌⊠◌, neg as ⊟◌, 𝟏 as 1ₚ}

  infixl 60 ◌+◌ ◌+ᵏ◌ ◌⊞◌
  infixl 70 ◌*◌ ◌*ᵏ◌ ◌⊠◌
  infix 80 -◌ -ᵏ◌ ⊟◌
  pub P_path : {a b : Poly 𝓥} → a.0 ≡ b.0 → a ≡ b
  P_path {a} {b} e = sub_path L 𝓥.IsPoly 𝓥.closed {x = a} {y = b} e

  pub view : (a : Poly 𝓥) → (a.0 ≡ 𝟎) ⊎ ((n : ℕ) × Has 𝓥 a.0 n)
  view a = elim (𝓥.poly_view a.0 a.1) [ inl e ↦ inl e | inr (n, c, hc, h) ↦ inr (n, (c, hc, h)) ]

  pub degree : (a : Poly 𝓥) → a.0 ≢ 𝟎 → (n : ℕ) × Has 𝓥 a.0 n
  degree a h = elim (view a) [ inl e ↦ absurd (h e) | inr k ↦ k ]

  pub not_zero : {x : L.El} {p q : ℕ} → HasDeg 𝓥 x p q → x ≢ 𝟎
  not_zero h e = d.has_not_zero 𝓥 (d.has_eq 𝓥 h e)

  pub poly_discrete : (a b : Poly 𝓥) → Dec (a ≡ b)
  poly_discrete a b = elim (view (a ⊞ ⊟ b)) [
    | inl e ↦ yes (P_path (r.eq_of_sub L a.0 b.0 e))
    | inr (n, h) ↦ no (λ e. not_zero h (ap (λ t. t.0 + - b.0) e ∙ L.laws.add_neg b.0))
  ]

  pub poly_lt : (a : Poly 𝓥) → (m : ℕ) × Lt 𝓥 a.0 m
  poly_lt a = elim (view a) [ inl e ↦ (0, d.lt_eq 𝓥 (𝓥.lead_zero 0 0) (sym e)) | inr (n, h) ↦ (suc n, d.has_up 𝓥 (suc n) h (omega arith)) ]

  pub factor : {m n : ℕ} (a q b : Poly 𝓥) → Has 𝓥 a.0 m → Has 𝓥 b.0 n → b ≡ a ⊠ q → (k : ℕ) × Has 𝓥 q.0 k × (n ≡ m +ⁿ k)
  factor a q b ha hb e =
      let (k, hq) = degree q (λ z. d.has_not_zero 𝓥 (d.has_eq 𝓥 hb (ap (λ t. t.0) e ∙ ap (λ t. a.0 * t) z ∙ r.mul-zero L a.0))) in
      (k, hq, d.same 𝓥 hb (d.has_eq 𝓥 (d.has_mul 𝓥 ha hq) (sym (ap (λ t. t.0) e))))

  -- two polynomials of degree at most 0 with one coefficient are equal
  pub const_path : {a b : Poly 𝓥} {k : K.El} → Lead a.0 0 0 k → Lead b.0 0 0 k → a ≡ b
  const_path {a} {b} {k} h g = P_path (r.eq_of_sub L a.0 b.0 (𝓥.poly_small (a ⊞ ⊟ b).0 (a ⊞ ⊟ b).1 (d.lead_eq 𝓥 (𝓥.lead_add h (𝓥.lead_neg g)) refl (K.laws.add_neg k))))

  -- u x' = u' (β x) with β constant, u and u' monic, and x, x' with one leading coefficient: β = 1
  pub one_of : (β : Poly 𝓥) (u u' x x' : L.El) (k : K.El) → Has 𝓥 β.0 0 → Leads 𝓥 u 1ᵏ → Leads 𝓥 u' 1ᵏ → Leads 𝓥 x k → Leads 𝓥 x' k → u * x' ≡ u' * (β.0 * x) → β ≡ 1ₚ
  one_of β u u' x x' k (c, hc, h) lu lu' lx lx' e = const_path (d.lead_eq 𝓥 h refl (r.eq_of_sub K c 1ᵏ c_one)) 𝓥.lead_one
    where
      k_eq : 1ᵏ *ᵏ k ≡ 1ᵏ *ᵏ (c *ᵏ k)
      k_eq = leads_unique 𝓥 (leads_mul 𝓥 lu lx') (subst (λ z. Leads 𝓥 z (1ᵏ *ᵏ (c *ᵏ k))) (sym e) (leads_mul 𝓥 lu' (leads_mul 𝓥 (0, 0, hc, h) lx)))

      c_one : c +ᵏ -ᵏ 1ᵏ ≡ 0ᵏ
      c_one = k_zero 𝓥 k (c +ᵏ -ᵏ 1ᵏ) lx.2 (ring₂ K (λ c k. k :* (c :+ minus one) := one :* (c :* k) :+ minus (one :* k)) tt c k ∙ ap (λ z. 1ᵏ *ᵏ (c *ᵏ k) +ᵏ -ᵏ z) k_eq ∙ K.laws.add_neg (1ᵏ *ᵏ (c *ᵏ k)))

  -- ---- constants
  pub record Unit₀ (k : K.El) : Type 0 where
    pub a : Poly 𝓥
    pub a' : Poly 𝓥
    pub inverse : a ⊠ a' ≡ 1ₚ
    pub lead : Lead a.0 0 0 k

  pub unit_of : (k : K.El) → k ≢ 0ᵏ → Unit₀ k
  unit_of k hk =
      let (i, e) = 𝓥.field.inv k hk in
      let a : Poly 𝓥 = (𝓥.const k, 𝓥.const_poly k) in
      let a' : Poly 𝓥 = (𝓥.const i, 𝓥.const_poly i) in
      record { a = a; a' = a'; inverse = const_path (d.lead_eq 𝓥 (𝓥.lead_mul (𝓥.const_lead k) (𝓥.const_lead i)) refl e) 𝓥.lead_one; lead = 𝓥.const_lead k }

  pub const_unit : (x : Poly 𝓥) → Has 𝓥 x.0 0 → IsUnit 𝓥 x
  const_unit x (c, hc, h) = let u = unit_of c hc in (u.a', sym (ap (λ z. z ⊠ u.a') (const_path {a = x} {b = u.a} h u.lead) ∙ u.inverse))

  pub unit_const : (x : Poly 𝓥) → IsUnit 𝓥 x → Has 𝓥 x.0 0
  unit_const x (q, e) =
      let (n, h) = degree x (λ z. d.has_not_zero 𝓥 (d.has_eq 𝓥 (d.has_one 𝓥) (ap (λ t. t.0) e ∙ ap (λ t. t * q.0) z ∙ r.zero_mul' L q.0))) in
      let (k, hk, f) = factor x q 1ₚ h (d.has_one 𝓥) e in
      subst (λ m. Has 𝓥 x.0 m) (omega arith) h

  -- ---- division, one term at a time
  -- a t^j
  unfoldable pub mono : ℕ → K.El → Poly 𝓥
  mono zero a = (𝓥.const a, 𝓥.const_poly a)
  mono (suc j) a = (𝓥.t, 𝓥.t_poly) ⊠ mono j a

  pub mono_lead : (j : ℕ) (a : K.El) → Lead (mono j a).0 j 0 a
  unfolding mono
  mono_lead zero a = 𝓥.const_lead a
  mono_lead (suc j) a = d.lead_eq 𝓥 (𝓥.lead_move (suc j) 0 (𝓥.lead_mul 𝓥.t_lead (mono_lead j a)) (omega arith)) refl (r.one-mul K a)

  -- k t^j y takes away the leading term of x, for k = − lead x / lead y and j = deg x − deg y
  pub one_term : {x y : L.El} {p q : ℕ} {a : K.El} (j : ℕ) → Lead x (j +ⁿ p) q a → HasDeg 𝓥 y p q → (k : K.El) × Lead (x + (mono j k).0 * y) (j +ⁿ p) q 0ᵏ
  one_term {x} {y} {p} {q} {a} j h (b, hb, g) =
      let (i, e) = 𝓥.field.inv b hb in
      let k : K.El = -ᵏ (a *ᵏ i) in (
        k,
        d.lead_eq 𝓥 (𝓥.lead_add h (𝓥.lead_move (j +ⁿ p) q (𝓥.lead_mul (mono_lead j k) g) (omega arith))) refl
            (ring₃ K (λ a i b. a :+ minus (a :* i) :* b := a :+ minus (a :* (b :* i))) tt a i b ∙ ap (λ z. a +ᵏ -ᵏ (a *ᵏ z)) e ∙ ring₁ K (λ a. a :+ minus (a :* one) := zer) tt a),
      )

  -- the polynomial c that brings x + c y below y
  pub divide : {x y : L.El} {p q : ℕ} {a : K.El} (j : ℕ) → Lead x (j +ⁿ p) q a → HasDeg 𝓥 y p q → (c : Poly 𝓥) × Lead (x + c.0 * y) p q 0ᵏ
  divide {p = p} {q = q} zero h g = let (k, l) = one_term 0 h g in (mono 0 k, 𝓥.lead_move p q l (omega arith))
  divide {x} {y} {p} {q} {a} (suc j) h g =
      let (k, l) = one_term (suc j) h g in
      let (a', l') = 𝓥.lead_down l in
      let (c, l'') = divide {x = x + (mono (suc j) k).0 * y} j (𝓥.lead_move (j +ⁿ p) q l' (omega arith)) g in
      (mono (suc j) k ⊞ c, d.lead_eq 𝓥 l'' (ring₄ L (λ z c c' y. z :+ c :* y :+ c' :* y := z :+ (c :+ c') :* y) tt x (mono (suc j) k).0 c.0 y) refl)
