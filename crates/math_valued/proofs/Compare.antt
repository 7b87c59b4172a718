-- Comparisons of degrees as numbers, leading coefficients, and constant factors.
--   ≺-lt ≺-has ≼-has lt_≺ at_most    between `x ≺ y`, `x ≼ y` and whole degrees
--   leads_unique leads_mul leads_cube   one leading coefficient for each element, and that of a product and of a cube
--   lt_scale lt_unscale has_scale has_unscale   a constant factor changes no degree, and (≺-left ≺-right) no comparison
--   lt_mul_sharp                     the product of degrees ≤ m and < n
--   k_zero                           a product of constants that is 0 has a factor that is 0
use mathlib.Core.Path.{◌≡◌, refl, sym, ap, ◌∙◌}
use mathlib.Core.Logic.{◌≢◌}
use Prim.Native.Nat.{ℕ, suc, ◌≤◌, ◌<◌, ◌+◌ as ◌+ⁿ◌, ◌-◌ as ◌-ⁿ◌}
use native.Mathlib.Omega.{arith}
use native.Mathlib.Decide.{dec_le}
use Rattle.math_ring.proofs.Laws as r
use Rattle.math_ring.proofs.Solve.{◌:*◌, ◌:=◌, ring₃}
use Rattle.math_valued.specs.Val.{Valued}
use Rattle.math_valued.specs.Degree.{HasDeg, Has, Lt, ◌≺◌, ◌≼◌, Leads}
use Rattle.math_valued.proofs.Degree as d

module _ (𝓥 : Valued) where
  open 𝓥 use {K, L, Lead}
  open L.ops use {add as ◌+◌, mul as ◌*◌, neg as -◌, 𝟎, 𝟏}
  open K.ops use {add as ◌+ᵏ◌, mul as ◌*ᵏ◌, neg as -ᵏ◌, 𝟎 as 0ᵏ, 𝟏 as 1ᵏ}

  infixl 60 ◌+◌ ◌+ᵏ◌
  infixl 70 ◌*◌ ◌*ᵏ◌
  infix 80 -◌ -ᵏ◌
  -- ---- comparisons as numbers
  pub ≺-lt : {x y : L.El} {n : ℕ} → ◌≺◌ 𝓥 x y → Has 𝓥 y n → Lt 𝓥 x n
  ≺-lt {n} (p, q, hy, hx) h = 𝓥.lead_move n 0 hx (omega (arith, d.has_unique 𝓥 hy h))

  pub ≺-has : {x y : L.El} {m : ℕ} → ◌≺◌ 𝓥 x y → Has 𝓥 x m → (n : ℕ) × (m < n) × Has 𝓥 y n
  ≺-has {m} (p, q, (c, hc, hy), hx) h =
      let l : m +ⁿ q < p +ⁿ 0 = d.has_above 𝓥 h hx in
      (p -ⁿ q, omega arith, (c, hc, 𝓥.lead_move (p -ⁿ q) 0 hy (omega arith)))

  pub ≼-has : {x y : L.El} {m : ℕ} → ◌≼◌ 𝓥 x y → Has 𝓥 x m → (n : ℕ) × (m ≤ n) × Has 𝓥 y n
  ≼-has {m} (p, q, (c, hc, hy), a, hx) h =
      let l : m +ⁿ q < suc p +ⁿ 0 = d.has_above 𝓥 h (𝓥.lead_up (suc p) q hx (omega arith)) in
      (p -ⁿ q, omega arith, (c, hc, 𝓥.lead_move (p -ⁿ q) 0 hy (omega arith)))

  pub lt_≺ : {x y : L.El} {n : ℕ} → Lt 𝓥 x n → Has 𝓥 y n → ◌≺◌ 𝓥 x y
  lt_≺ {n} h g = (n, 0, g, h)

  pub has_≺ : {x y : L.El} {m n : ℕ} → Has 𝓥 x m → Has 𝓥 y n → m < n → ◌≺◌ 𝓥 x y
  has_≺ {n = n} h g l = (n, 0, g, d.has_up 𝓥 n h l)

  -- a degree at most u
  pub at_most : {x : L.El} {p q : ℕ} {c : K.El} (u : ℕ) → Lead x p q c → p ≤ u +ⁿ q → (a : K.El) × Lead x u 0 a
  at_most {p} {q} {c} u h l = elim (dec_le (u +ⁿ q) p) [ yes e ↦ (c, 𝓥.lead_move u 0 h (omega arith)) | no e ↦ (0ᵏ, 𝓥.lead_up u 0 h (omega arith)) ]

  pub has_≼ : {x y : L.El} {m n : ℕ} → Has 𝓥 x m → Has 𝓥 y n → m ≤ n → ◌≼◌ 𝓥 x y
  has_≼ {n = n} (c, hc, h) g l = let (a, k) = at_most n h (omega arith) in (n, 0, g, a, k)

  -- ---- leading coefficients
  pub leads_unique : {x : L.El} {a b : K.El} → Leads 𝓥 x a → Leads 𝓥 x b → a ≡ b
  leads_unique {x} {a} {b} (p, q, ha, h) (p', q', hb, g) = 𝓥.lead_unique h (𝓥.lead_move p q g (sym (d.has_unique 𝓥 (a, ha, h) (b, hb, g))))

  pub leads_mul : {x y : L.El} {a b : K.El} → Leads 𝓥 x a → Leads 𝓥 y b → Leads 𝓥 (x * y) (a *ᵏ b)
  leads_mul {a} {b} (p, q, ha, h) (p', q', hb, g) = (p +ⁿ p', q +ⁿ q', d.k_domain 𝓥 a b ha hb, 𝓥.lead_mul h g)

  pub leads_cube : {x : L.El} {a : K.El} → Leads 𝓥 x a → Leads 𝓥 (x * x * x) (a *ᵏ a *ᵏ a)
  leads_cube l = leads_mul (leads_mul l l) l

  pub leads_one : Leads 𝓥 𝟏 1ᵏ
  leads_one = (0, 0, 𝓥.one≢zero, 𝓥.lead_one)

  -- the leading coefficient, at the degree
  pub leads_at : {x : L.El} {c : K.El} {p q : ℕ} → Leads 𝓥 x c → HasDeg 𝓥 x p q → Lead x p q c
  leads_at {p = p} {q = q} (p', q', hc, l) h = 𝓥.lead_move p q l (d.has_unique 𝓥 (_, hc, l) h)

  pub k_zero : (a b : K.El) → a ≢ 0ᵏ → a *ᵏ b ≡ 0ᵏ → b ≡ 0ᵏ
  k_zero a b ha e = elim (𝓥.field.dec b 0ᵏ) [ yes z ↦ z | no z ↦ absurd (d.k_domain 𝓥 a b ha z e) ]

  -- ---- a factor of degree 0
  pub lt_scale : {s x : L.El} {n : ℕ} → Has 𝓥 s 0 → Lt 𝓥 x n → Lt 𝓥 (s * x) n
  lt_scale {s} {x} {n} (c, hc, h) g = 𝓥.lead_move n 0 (d.lead_eq 𝓥 (𝓥.lead_mul h g) refl (r.mul-zero K c)) (omega arith)

  pub lt_unscale : {s x : L.El} {n : ℕ} → Has 𝓥 s 0 → Lt 𝓥 (s * x) n → Lt 𝓥 x n
  lt_unscale {n} h g = d.lt_cancel 𝓥 n h (d.lt_up 𝓥 (0 +ⁿ n) g (omega arith))

  pub has_scale : {s x : L.El} {p q : ℕ} → Has 𝓥 s 0 → HasDeg 𝓥 x p q → HasDeg 𝓥 (s * x) p q
  has_scale {s} {x} {p} {q} h g = let (c, hc, k) = d.has_mul 𝓥 h g in (c, hc, 𝓥.lead_move p q k (omega arith))

  pub ≺-left : {s x y : L.El} → Has 𝓥 s 0 → ◌≺◌ 𝓥 x y → ◌≺◌ 𝓥 (s * x) y
  ≺-left (c, hc, h) (p, q, hy, hx) = (p, q, hy, 𝓥.lead_move p q (d.lead_eq 𝓥 (𝓥.lead_mul h hx) refl (r.mul-zero K c)) (omega arith))

  pub ≺-right : {s x y : L.El} → Has 𝓥 s 0 → ◌≺◌ 𝓥 x y → ◌≺◌ 𝓥 x (s * y)
  ≺-right h (p, q, hy, hx) = (p, q, has_scale h hy, hx)

  pub has_unscale : {s x : L.El} {p q : ℕ} → Has 𝓥 s 0 → HasDeg 𝓥 (s * x) p q → HasDeg 𝓥 x p q
  has_unscale {s} {x} h g =
      let (i, e, hi) = d.has_inv 𝓥 h in
      d.has_eq 𝓥 (has_scale hi g) (ring₃ L (λ i t x. i :* (t :* x) := t :* i :* x) tt i s x ∙ ap (λ z. z * x) e ∙ r.one-mul L x)

  pub lt_mul_sharp : {x y : L.El} {m n : ℕ} → Lt 𝓥 x (suc m) → Lt 𝓥 y n → Lt 𝓥 (x * y) (m +ⁿ n)
  lt_mul_sharp {m = m} {n = n} h g =
      let (c, k) = 𝓥.lead_down h in
      d.lead_eq 𝓥 (𝓥.lead_move (m +ⁿ n) 0 (𝓥.lead_mul k g) (omega arith)) refl (r.mul-zero K c)
