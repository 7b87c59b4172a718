-- The laws of degrees: of sums, products, inverses; one degree for each element; cancelling; `look`, the search for a degree between
-- two bounds. Everything follows from the laws of leading coefficients in `Valued`.
use mathlib.Core.Path.{◌≡◌, refl, sym, ap, ◌∙◌, subst}
use mathlib.Core.Logic.{◌≢◌, ◌⊎◌, inl, inr}
use Prim.Native.Nat.{ℕ, zero, suc, ◌≤◌, ◌<◌, ◌+◌ as ◌+ⁿ◌}
use native.Mathlib.Omega.{arith}
use native.Mathlib.Decide.{dec_le}
use Rattle.math_ring.proofs.Laws as r
use Rattle.math_ring.proofs.Solve.{◌:*◌, ◌:=◌, ring₃}
use Rattle.math_valued.specs.Val.{Valued}
use Rattle.math_valued.specs.Degree.{HasDeg, Has, Lt}

module _ (𝓥 : Valued) where
  open 𝓥 use {K, L, Lead}
  open K.ops use {add as ◌+ᵏ◌, mul as ◌*ᵏ◌, neg as -ᵏ◌, 𝟎 as 0ᵏ, 𝟏 as 1ᵏ}
  open L.ops use {add as ◌+◌, mul as ◌*◌, neg as -◌, 𝟎, 𝟏}

  infixl 60 ◌+◌ ◌+ᵏ◌
  infixl 70 ◌*◌ ◌*ᵏ◌
  infix 80 -◌ -ᵏ◌
  -- ---- the constants
  pub k_domain : (a b : K.El) → a ≢ 0ᵏ → b ≢ 0ᵏ → a *ᵏ b ≢ 0ᵏ
  k_domain a b ha hb e =
      let i = 𝓥.field.inv a ha in
      hb (sym (r.one-mul K b) ∙ ap (λ z. z *ᵏ b) (sym i.1) ∙ ring₃ K (λ x y z. x :* y :* z := y :* (x :* z)) tt a i.0 b ∙ ap (λ z. i.0 *ᵏ z) e ∙ r.mul-zero K i.0)

  pub k_cancel : (a x y : K.El) → a ≢ 0ᵏ → a *ᵏ x ≡ a *ᵏ y → x ≡ y
  k_cancel a x y h e =
      let (i, f) = 𝓥.field.inv a h in
      let g : i *ᵏ a ≡ 1ᵏ = K.laws.mul_comm i a ∙ f in
      sym (r.undo K i a x g) ∙ ap (λ z. i *ᵏ z) e ∙ r.undo K i a y g

  pub k_neg : (a : K.El) → a ≢ 0ᵏ → -ᵏ a ≢ 0ᵏ
  k_neg a ha e = ha (sym (r.neg_neg K a) ∙ ap (λ z. -ᵏ z) e ∙ r.neg_zero K)

  -- ---- degrees p − q
  pub lead_eq : {x y : L.El} {p q : ℕ} {a b : K.El} → Lead x p q a → x ≡ y → a ≡ b → Lead y p q b
  lead_eq {x} {y} {p} {q} {a} {b} h e f = subst (λ c. Lead y p q c) f (subst (λ z. Lead z p q a) e h)

  pub has_mul : {x y : L.El} {p q p' q' : ℕ} → HasDeg 𝓥 x p q → HasDeg 𝓥 y p' q' → HasDeg 𝓥 (x * y) (p +ⁿ p') (q +ⁿ q')
  has_mul (a, ha, h) (b, hb, g) = (a *ᵏ b, k_domain a b ha hb, 𝓥.lead_mul h g)

  pub has_neg : {x : L.El} {p q : ℕ} → HasDeg 𝓥 x p q → HasDeg 𝓥 (- x) p q
  has_neg (a, ha, h) = (-ᵏ a, k_neg a ha, 𝓥.lead_neg h)

  pub has_inv : {x : L.El} {p q : ℕ} → HasDeg 𝓥 x p q → (y : L.El) × (x * y ≡ 𝟏) × HasDeg 𝓥 y q p
  has_inv {x} {p} {q} (a, ha, h) =
      let i = 𝓥.lead_inv h ha in
      (i.0, i.2, (i.1, (λ z. 𝓥.one≢zero (sym (𝓥.lead_unique (𝓥.lead_move 0 0 (lead_eq (𝓥.lead_mul h i.3) i.2 refl) (omega arith)) 𝓥.lead_one) ∙ ap (λ b. a *ᵏ b) z ∙ r.mul-zero K a)), i.3))

  -- An element has one degree, and no bound at it or under it.
  pub has_above : {x : L.El} {p q p' q' : ℕ} → HasDeg 𝓥 x p q → Lead x p' q' 0ᵏ → p +ⁿ q' < p' +ⁿ q
  has_above {x} {p} {q} {p'} {q'} (a, ha, h) g = elim (dec_le (p' +ⁿ q) (p +ⁿ q')) [
    | yes l ↦ absurd (go (dec_le (p +ⁿ q') (p' +ⁿ q)) l)
    | no l ↦ omega arith
  ]
    where
      go : Dec (p +ⁿ q' ≤ p' +ⁿ q) → p' +ⁿ q ≤ p +ⁿ q' → ⊥
      go (yes m) l = ha (𝓥.lead_unique h (𝓥.lead_move p q g (omega arith)))
      go (no m) l = ha (𝓥.lead_unique h (𝓥.lead_up p q g (omega arith)))

  pub has_unique : {x : L.El} {p q p' q' : ℕ} → HasDeg 𝓥 x p q → HasDeg 𝓥 x p' q' → p +ⁿ q' ≡ p' +ⁿ q
  has_unique {x} {p} {q} {p'} {q'} h (b, hb, g) = elim (dec_le (p +ⁿ q') (p' +ⁿ q)) [
    | yes l ↦ elim (dec_le (p' +ⁿ q) (p +ⁿ q')) [ yes m ↦ omega arith | no m ↦ absurd (hb (𝓥.lead_unique g (𝓥.lead_up p' q' h.2 (omega arith)))) ]
    | no l ↦ absurd (h.1 (𝓥.lead_unique h.2 (𝓥.lead_up p q g (omega arith))))
  ]

  -- ---- degrees n ≥ 0
  pub lt_add : {x y : L.El} {n : ℕ} → Lt 𝓥 x n → Lt 𝓥 y n → Lt 𝓥 (x + y) n
  lt_add h g = lead_eq (𝓥.lead_add h g) refl (K.laws.add-zero 0ᵏ)

  pub lt_neg : {x : L.El} {n : ℕ} → Lt 𝓥 x n → Lt 𝓥 (- x) n
  lt_neg h = lead_eq (𝓥.lead_neg h) refl (r.neg_zero K)

  pub has_lt : {x y : L.El} {p q : ℕ} → HasDeg 𝓥 x p q → Lead y p q 0ᵏ → HasDeg 𝓥 (x + y) p q
  has_lt {x} {y} (a, ha, h) g = (a, ha, lead_eq (𝓥.lead_add h g) refl (K.laws.add-zero a))

  pub lt_has_mul : {x y : L.El} {m n : ℕ} → Lt 𝓥 x m → Has 𝓥 y n → Lt 𝓥 (x * y) (m +ⁿ n)
  lt_has_mul h (b, hb, g) = lead_eq (𝓥.lead_mul h g) refl (r.zero_mul' K b)

  pub lt_mul : {x y : L.El} {m n : ℕ} → Lt 𝓥 x m → Lt 𝓥 y n → Lt 𝓥 (x * y) (m +ⁿ n)
  lt_mul h g = lead_eq (𝓥.lead_mul h g) refl (r.mul-zero K 0ᵏ)

  -- a bound, raised
  pub lead_up : {x : L.El} {p q : ℕ} (p' q' : ℕ) → Lead x p q 0ᵏ → p +ⁿ q' ≤ p' +ⁿ q → Lead x p' q' 0ᵏ
  lead_up {x} {p} {q} p' q' h l = elim (dec_le (p' +ⁿ q) (p +ⁿ q')) [ yes e ↦ 𝓥.lead_move p' q' h (omega arith) | no e ↦ 𝓥.lead_up p' q' h (omega arith) ]

  pub lt_up : {x : L.El} {m : ℕ} (n : ℕ) → Lt 𝓥 x m → m ≤ n → Lt 𝓥 x n
  lt_up {x} {m} n h l = elim (dec_le n m) [ yes e ↦ 𝓥.lead_move n 0 h (omega arith) | no e ↦ 𝓥.lead_up n 0 h (omega arith) ]

  pub has_up : {x : L.El} {m : ℕ} (n : ℕ) → Has 𝓥 x m → m < n → Lt 𝓥 x n
  has_up n (a, ha, h) l = 𝓥.lead_up n 0 h (omega arith)

  pub above : {x : L.El} {m n : ℕ} → Has 𝓥 x m → Lt 𝓥 x n → m < n
  above h g = omega (arith, has_above h g)

  pub same : {x : L.El} {m n : ℕ} → Has 𝓥 x m → Has 𝓥 x n → m ≡ n
  same h g = omega (arith, has_unique h g)

  pub lt_eq : {x y : L.El} {n : ℕ} → Lt 𝓥 x n → x ≡ y → Lt 𝓥 y n
  lt_eq h e = lead_eq h e refl

  pub has_eq : {x y : L.El} {p q : ℕ} → HasDeg 𝓥 x p q → x ≡ y → HasDeg 𝓥 y p q
  has_eq (a, ha, h) e = (a, ha, lead_eq h e refl)

  pub has_one : Has 𝓥 𝟏 0
  has_one = (1ᵏ, 𝓥.one≢zero, 𝓥.lead_one)

  -- An element below n has a degree that is at least m, or lies below m: look at its coefficients.
  pub look : {x : L.El} (j m : ℕ) → Lt 𝓥 x (j +ⁿ m) → ((i : ℕ) × (i < j +ⁿ m) × (m ≤ i) × Has 𝓥 x i) ⊎ Lt 𝓥 x m
  look zero m h = inr (𝓥.lead_move m 0 h (omega arith))
  look {x} (suc j) m h =
      let d = 𝓥.lead_down h in
      go d.0 (𝓥.lead_move (j +ⁿ m) 0 d.1 (omega arith)) (𝓥.field.dec d.0 0ᵏ) (λ g. look j m g)
    where
      go : (c : K.El) → Lead x (j +ⁿ m) 0 c → Dec (c ≡ 0ᵏ) → (Lt 𝓥 x (j +ⁿ m) → ((i : ℕ) × (i < j +ⁿ m) × (m ≤ i) × Has 𝓥 x i) ⊎ Lt 𝓥 x m) →
          ((i : ℕ) × (i < suc j +ⁿ m) × (m ≤ i) × Has 𝓥 x i) ⊎ Lt 𝓥 x m
      go c g (no e) k = inl (j +ⁿ m, omega arith, omega arith, (c, e, g))
      go c g (yes e) k = elim (k (lead_eq g refl e)) [ inl (i, a, b, s) ↦ inl (i, omega arith, b, s) | inr s ↦ inr s ]

  -- What has a degree can be cancelled.
  pub cancel : {x : L.El} {p q : ℕ} (y z : L.El) → HasDeg 𝓥 x p q → x * y ≡ x * z → y ≡ z
  cancel {x} y z h e =
      let i = has_inv h in
      sym (lone y) ∙ ap (λ s. i.0 * s) e ∙ lone z
    where
      lone : (s : L.El) → (has_inv h).0 * (x * s) ≡ s
      lone s = ring₃ L (λ a b c. a :* (b :* c) := b :* a :* c) tt (has_inv h).0 x s ∙ ap (λ u. u * s) (has_inv h).1 ∙ r.one-mul L s

  -- A degree that a factor of known degree hides.
  pub lead_cancel : {x y : L.El} {m p q : ℕ} (p' q' : ℕ) → Has 𝓥 x m → Lead (x * y) p q 0ᵏ → p +ⁿ q' ≡ m +ⁿ p' +ⁿ q → Lead y p' q' 0ᵏ
  lead_cancel {x} {y} {m} p' q' h g e =
      let i = has_inv h in
      𝓥.lead_move p' q' (lead_eq (𝓥.lead_mul i.2.2 g) (ring₃ L (λ a b c. a :* (b :* c) := b :* a :* c) tt i.0 x y ∙ ap (λ u. u * y) i.1 ∙ r.one-mul L y) (r.mul-zero K i.2.0)) (omega arith)

  pub lt_cancel : {x y : L.El} {m : ℕ} (n : ℕ) → Has 𝓥 x m → Lt 𝓥 (x * y) (m +ⁿ n) → Lt 𝓥 y n
  lt_cancel n h g = lead_cancel n 0 h g (omega arith)

  pub has_move : {x : L.El} {p q : ℕ} (p' q' : ℕ) → HasDeg 𝓥 x p q → p +ⁿ q' ≡ p' +ⁿ q → HasDeg 𝓥 x p' q'
  has_move p' q' (a, ha, h) e = (a, ha, 𝓥.lead_move p' q' h e)

  pub has_cancel : {x y : L.El} {m k p q : ℕ} → HasDeg 𝓥 x m k → HasDeg 𝓥 (x * y) p q → HasDeg 𝓥 y (k +ⁿ p) (m +ⁿ q)
  has_cancel {x} {y} h g =
      let (i, e, hi) = has_inv h in
      has_eq (has_mul hi g) (ring₃ L (λ a b c. a :* (b :* c) := b :* a :* c) tt i x y ∙ ap (λ u. u * y) e ∙ r.one-mul L y)

  pub has_not_zero : {p q : ℕ} → ¬ HasDeg 𝓥 𝟎 p q
  has_not_zero {p} {q} (a, ha, h) = ha (𝓥.lead_unique h (𝓥.lead_zero p q))
