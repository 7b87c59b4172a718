-- No cancellation in 3y² + z² and y² − yz + z².
--   has_two has_three      2 and 3 are constants that are not 0
--   form form'             3y² + z² and y² − yz + z²; `form` is four times the value of the cofactor (Values.Q_yz)
--   form_has form'_has     of degree 2d, where d is the larger of the two degrees
--   form_below form_at_most   both below n, or at most n: below 2n, or at most 2n
--   form_lt                below 2n: both are below n
--   form_top form_look     the degree found by a search from a bound downwards
use mathlib.Core.Path.{◌≡◌, refl, ap₂, ◌∙◌}
use mathlib.Core.Logic.{◌≢◌, ◌⊎◌, inl, inr}
use Prim.Native.Nat.{ℕ, zero, suc, ◌≤◌, ◌+◌ as ◌+ⁿ◌}
use native.Mathlib.Omega.{arith}
use Rattle.math_ring.proofs.Solve.{one, zer, minus, ◌:+◌, ◌:*◌, ◌:=◌, ring₁, ring₂}
use Rattle.math_valued.specs.Degree.{HasDeg, Has, Lt}
use Rattle.math_valued.proofs.Degree as d
use Rattle.math_valued.proofs.Compare.{k_zero}
use Rattle.math_ideals.specs.Setting.{Setting}
use Rattle.math_ideals.proofs.Values.{form'}

module _ (S : Setting) where
  open S use {𝓥}
  open 𝓥 use {K, L, Lead}
  open L.ops use {add as ◌+◌, mul as ◌*◌, neg as -◌, 𝟎, 𝟏}
  open K.ops use {add as ◌+ᵏ◌, mul as ◌*ᵏ◌, neg as -ᵏ◌, 𝟎 as 0ᵏ, 𝟏 as 1ᵏ}

  infixl 60 ◌+◌ ◌+ᵏ◌
  infixl 70 ◌*◌ ◌*ᵏ◌
  infix 80 -◌ -ᵏ◌
  -- ---- 2 and 3
  pub three≢ : 1ᵏ +ᵏ 1ᵏ +ᵏ 1ᵏ ≢ 0ᵏ
  three≢ e = 𝓥.one≢zero (S.roots.form 1ᵏ (-ᵏ 1ᵏ) (ring₁ K (λ x. one :* one :+ minus (one :* minus one) :+ minus one :* minus one := one :+ one :+ one) tt 1ᵏ ∙ e)).0

  pub has_two : Has 𝓥 (𝟏 + 𝟏) 0
  has_two = (1ᵏ +ᵏ 1ᵏ, S.roots.two≢, 𝓥.lead_add 𝓥.lead_one 𝓥.lead_one)

  pub has_three : Has 𝓥 (𝟏 + 𝟏 + 𝟏) 0
  has_three = (1ᵏ +ᵏ 1ᵏ +ᵏ 1ᵏ, three≢, 𝓥.lead_add (𝓥.lead_add 𝓥.lead_one 𝓥.lead_one) 𝓥.lead_one)

  -- ---- the forms
  form₃ : (a b : K.El) → (1ᵏ +ᵏ 1ᵏ +ᵏ 1ᵏ) *ᵏ (a *ᵏ a) +ᵏ b *ᵏ b ≡ 0ᵏ → (a ≡ 0ᵏ) × (b ≡ 0ᵏ)
  form₃ a b e =
      let z = S.roots.form (a +ᵏ b) (b +ᵏ -ᵏ a) (ring₂ K (λ x y. (x :+ y) :* (x :+ y) :+ minus ((x :+ y) :* (y :+ minus x)) :+ (y :+ minus x) :* (y :+ minus x) := (one :+ one :+ one) :* (x :* x) :+ y :* y) tt a b ∙ e) in (
        k_zero 𝓥 (1ᵏ +ᵏ 1ᵏ) a S.roots.two≢ (ring₂ K (λ x y. (one :+ one) :* x := (x :+ y) :+ minus (y :+ minus x)) tt a b ∙ ap₂ (λ s t. s +ᵏ -ᵏ t) z.0 z.1 ∙ K.laws.add_neg 0ᵏ),
        k_zero 𝓥 (1ᵏ +ᵏ 1ᵏ) b S.roots.two≢ (ring₂ K (λ x y. (one :+ one) :* y := (x :+ y) :+ (y :+ minus x)) tt a b ∙ ap₂ ◌+ᵏ◌ z.0 z.1 ∙ K.laws.add-zero 0ᵏ),
      )

  abbrev pub form : L.El → L.El → L.El
  form y z = (𝟏 + 𝟏 + 𝟏) * (y * y) + z * z

  pub form_lead : {y z : L.El} {p q : ℕ} {a b : K.El} → Lead y p q a → Lead z p q b → Lead (form y z) (p +ⁿ p) (q +ⁿ q) ((1ᵏ +ᵏ 1ᵏ +ᵏ 1ᵏ) *ᵏ (a *ᵏ a) +ᵏ b *ᵏ b)
  unfolding has_three
  form_lead {y} {z} {p} {q} h g = 𝓥.lead_add (𝓥.lead_move (p +ⁿ p) (q +ⁿ q) (𝓥.lead_mul has_three.2 (𝓥.lead_mul h h)) (omega arith)) (𝓥.lead_mul g g)

  pub form_has : {y z : L.El} {p q : ℕ} {a b : K.El} → Lead y p q a → Lead z p q b → (a ≢ 0ᵏ) ⊎ (b ≢ 0ᵏ) → HasDeg 𝓥 (form y z) (p +ⁿ p) (q +ⁿ q)
  form_has {a} {b} h g k = (_, (λ e. elim k [ inl s ↦ s (form₃ a b e).0 | inr s ↦ s (form₃ a b e).1 ]), form_lead h g)

  pub form'_has : {y z : L.El} {p q : ℕ} {a b : K.El} → Lead y p q a → Lead z p q b → (a ≢ 0ᵏ) ⊎ (b ≢ 0ᵏ) → HasDeg 𝓥 (form' S y z) (p +ⁿ p) (q +ⁿ q)
  form'_has {a} {b} h g k =
      (_, (λ e. elim k [ inl s ↦ s (S.roots.form a b e).0 | inr s ↦ s (S.roots.form a b e).1 ]), 𝓥.lead_add (𝓥.lead_add (𝓥.lead_mul h h) (𝓥.lead_neg (𝓥.lead_mul h g))) (𝓥.lead_mul g g))

  pub form_below : {y z : L.El} {n : ℕ} → Lt 𝓥 y n → Lt 𝓥 z n → Lt 𝓥 (form y z) (n +ⁿ n)
  form_below h g = d.lead_eq 𝓥 (form_lead h g) refl (ring₁ K (λ x. (one :+ one :+ one) :* (zer :* zer) :+ zer :* zer := zer) tt 0ᵏ)

  pub form_at_most : {y z : L.El} {n : ℕ} → Lt 𝓥 y (suc n) → Lt 𝓥 z (suc n) → Lt 𝓥 (form y z) (suc (n +ⁿ n))
  form_at_most {n = n} h g =
      let (a, h') = 𝓥.lead_down h in
      let (b, g') = 𝓥.lead_down g in
      𝓥.lead_up (suc (n +ⁿ n)) 0 (form_lead h' g') (omega arith)

  -- deg (3 y² + z²) < 2n: deg y < n and deg z < n
  pub form_lt : {y z : L.El} (j n : ℕ) → Lt 𝓥 y (j +ⁿ n) → Lt 𝓥 z (j +ⁿ n) → Lt 𝓥 (form y z) (n +ⁿ n) → Lt 𝓥 y n × Lt 𝓥 z n
  form_lt zero n h g f = (d.lt_up 𝓥 n h (omega arith), d.lt_up 𝓥 n g (omega arith))
  form_lt {y} {z} (suc j) n h g f =
      let (a, ha) = 𝓥.lead_down h in
      let (b, hb) = 𝓥.lead_down g in
      let ha' : Lead y (j +ⁿ n) 0 a = 𝓥.lead_move (j +ⁿ n) 0 ha (omega arith) in
      let hb' : Lead z (j +ⁿ n) 0 b = 𝓥.lead_move (j +ⁿ n) 0 hb (omega arith) in
      let e : (a ≡ 0ᵏ) × (b ≡ 0ᵏ) = form₃ a b (𝓥.lead_unique (form_lead ha' hb') (d.lt_up 𝓥 ((j +ⁿ n) +ⁿ (j +ⁿ n)) f (omega arith))) in
      form_lt j n (d.lead_eq 𝓥 ha' refl e.0) (d.lead_eq 𝓥 hb' refl e.1) f

  -- y has a degree and z is bounded: 3 y² + z² has twice the degree of the larger of them
  pub form_top : {y z : L.El} {p q : ℕ} {b : K.El} (j : ℕ) → HasDeg 𝓥 y p q → Lead z (j +ⁿ p) q b → (m : ℕ) × HasDeg 𝓥 (form y z) ((m +ⁿ p) +ⁿ (m +ⁿ p)) (q +ⁿ q)
  form_top {y} {z} {p} {q} zero h g = (0, form_has (𝓥.lead_move (0 +ⁿ p) q h.2 (omega arith)) g (inl h.1))
  form_top {y} {z} {p} {q} {b} (suc j) h g = elim (𝓥.field.dec b 0ᵏ) [
    | yes e ↦ let (c, k) = 𝓥.lead_down (d.lead_eq 𝓥 g refl e) in form_top {b = c} j h (𝓥.lead_move (j +ⁿ p) q k (omega arith))
    | no e ↦ (suc j, form_has (𝓥.lead_up (suc j +ⁿ p) q h.2 (omega arith)) g (inr e))
  ]

  -- y and z below j + m: both are below m, or 3 y² + z² has an even degree 2i with m ≤ i
  pub form_look : {y z : L.El} (j m : ℕ) → Lt 𝓥 y (j +ⁿ m) → Lt 𝓥 z (j +ⁿ m) → (Lt 𝓥 y m × Lt 𝓥 z m) ⊎ ((i : ℕ) × (m ≤ i) × Has 𝓥 (form y z) (i +ⁿ i))
  form_look zero m h g = inl (d.lt_up 𝓥 m h (omega arith), d.lt_up 𝓥 m g (omega arith))
  form_look {y} {z} (suc j) m h g =
      let (a, ha) = 𝓥.lead_down h in
      let (b, hb) = 𝓥.lead_down g in
      go a b (𝓥.lead_move (j +ⁿ m) 0 ha (omega arith)) (𝓥.lead_move (j +ⁿ m) 0 hb (omega arith)) (𝓥.field.dec a 0ᵏ) (𝓥.field.dec b 0ᵏ) (form_look j m)
    where
      go : (a b : K.El) → Lead y (j +ⁿ m) 0 a → Lead z (j +ⁿ m) 0 b → Dec (a ≡ 0ᵏ) → Dec (b ≡ 0ᵏ) →
          (Lt 𝓥 y (j +ⁿ m) → Lt 𝓥 z (j +ⁿ m) → (Lt 𝓥 y m × Lt 𝓥 z m) ⊎ ((i : ℕ) × (m ≤ i) × Has 𝓥 (form y z) (i +ⁿ i))) → (Lt 𝓥 y m × Lt 𝓥 z m) ⊎ ((i : ℕ) × (m ≤ i) × Has 𝓥 (form y z) (i +ⁿ i))
      go a b h g (yes e) (yes f) on = on (d.lead_eq 𝓥 h refl e) (d.lead_eq 𝓥 g refl f)
      go a b h g (yes e) (no f) on = inr (j +ⁿ m, omega arith, form_has h g (inr f))
      go a b h g (no e) f on = inr (j +ⁿ m, omega arith, form_has h g (inl e))
