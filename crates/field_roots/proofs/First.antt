-- The laws of `fall`: the polynomial of the first n coefficients.
--   fall_ext, fall_lt, fall_lead, fall_poly   by its coefficients; below n; its leading one; a polynomial
--   fall_head                                 the first term, and the others
--   fall_split                                t^m times the first n terms, and m lower ones
--   fall_psum                                 as a sum from the constant term up
--   fall_inj                                  the polynomial says its coefficients
--   fall_mul                                  the product begins with the coefficients of the product
use mathlib.Core.Path.{◌≡◌, refl, sym, ap, ap₂, ◌∙◌}
use mathlib.Core.List.{List, [], ◌∷◌}
use Prim.Native.Nat.{ℕ, zero, suc, ◌<◌}
use Prim.Native.Nat as N
use native.Mathlib.Nat.{zero-add, suc-add}
use native.Mathlib.Omega.{arith}
use Rattle.base_lists.specs.Sums.{conv}
use Rattle.math_ring.specs.Ring.{CRing}
use Rattle.math_ring.proofs.Laws as r
use Rattle.math_ring.proofs.Solve.{var, one, zer, ◌:+◌, ◌:*◌, hyp, solve, solve_by}
use Rattle.math_valued.specs.Degree.{Lt}
use Rattle.math_valued.proofs.Degree.{lead_eq, lt_add}
use Rattle.math_rows.specs.Reading.{Reading}
use Rattle.math_rows.specs.Row.{tpow, psum}
use Rattle.math_rows.proofs.Rows.{const_zero, tpow_lead}
use Rattle.math_rows.proofs.Turn.{lt_scale, lead_scale}
use Rattle.math_rows.proofs.Unique.{psum_unique}
use Rattle.field_roots.specs.First.{fall}

module _ {p : ℕ} (ρ : Reading p) where
  open ρ use {𝓥}
  open 𝓥 use {K, L, Lead, const, t, IsPoly}
  open K.ops use {add as ◌+ᵏ◌, mul as ◌*ᵏ◌, neg as -ᵏ◌, 𝟎 as 0ᵏ, 𝟏 as 1ᵏ}
  open L.ops use {add as ◌+◌, mul as ◌*◌, neg as -◌, 𝟎, 𝟏}

  infixl 60 ◌+◌ ◌+ᵏ◌
  infixl 70 ◌*◌ ◌*ᵏ◌
  infix 80 -◌ -ᵏ◌
  -- the coefficients of a product, in the field
  abbrev pub convᵏ : (ℕ → K.El) → (ℕ → K.El) → ℕ → K.El
  convᵏ = conv ◌+ᵏ◌ ◌*ᵏ◌

  pub fall_ext : (n : ℕ) (f g : ℕ → K.El) → ((i : ℕ) → i < n → f i ≡ g i) → fall ρ n f ≡ fall ρ n g
  unfolding fall
  fall_ext zero f g h = refl
  fall_ext (suc n) f g h = ap₂ (λ x y. t * x + const y) (fall_ext n f g (λ i l. h i (omega arith))) (h n (omega arith))

  pub fall_poly : (n : ℕ) (f : ℕ → K.El) → IsPoly (fall ρ n f)
  unfolding fall
  fall_poly zero f = 𝓥.closed.𝟎
  fall_poly (suc n) f = 𝓥.closed.add _ _ (𝓥.closed.mul _ _ 𝓥.t_poly (fall_poly n f)) (𝓥.const_poly (f n))

  pub fall_lt : (n : ℕ) (f : ℕ → K.El) → Lt 𝓥 (fall ρ n f) n
  unfolding fall
  fall_lt zero f = 𝓥.lead_zero 0 0
  fall_lt (suc n) f = lt_add 𝓥 (t_lt (fall_lt n f)) (𝓥.lead_up (suc n) 0 (𝓥.const_lead (f n)) (omega arith))
    where
      t_lt : {x : L.El} → Lt 𝓥 x n → Lt 𝓥 (t * x) (suc n)
      t_lt h = lead_eq 𝓥 (𝓥.lead_move (suc n) 0 (𝓥.lead_mul 𝓥.t_lead h) (omega arith)) refl (r.mul-zero K 1ᵏ)

  pub fall_head : (n : ℕ) (f : ℕ → K.El) → fall ρ (suc n) f ≡ const (f 0) * tpow ρ n + fall ρ n (λ i. f (suc i))
  unfolding fall tpow
  fall_head zero f = solve L (var 0 :* zer :+ var 1) (var 1 :* one :+ zer) tt (t ∷ const (f 0) ∷ [])
  fall_head (suc n) f =
      ap (λ x. t * x + const (f (suc n))) (fall_head n f)
      ∙ solve L (var 0 :* (var 1 :* var 2 :+ var 3) :+ var 4) (var 1 :* (var 0 :* var 2) :+ (var 0 :* var 3 :+ var 4)) tt (t ∷ const (f 0) ∷ tpow ρ n ∷ fall ρ n (λ i. f (suc i)) ∷ const (f (suc n)) ∷ [])

  pub fall_lead : (n : ℕ) (f : ℕ → K.El) → Lead (fall ρ (suc n) f) n 0 (f 0)
  fall_lead n f =
      lead_eq 𝓥 (𝓥.lead_add (lead_scale ρ (f 0) (tpow_lead ρ n)) (fall_lt n (λ i. f (suc i)))) (sym (fall_head n f))
      (solve K (var 0 :* one :+ zer) (var 0) tt (f 0 ∷ []))

  pub fall_split : (m n : ℕ) (f : ℕ → K.El) → fall ρ (N.◌+◌ m n) f ≡ tpow ρ m * fall ρ n f + fall ρ m (λ i. f (N.◌+◌ i n))
  unfolding fall tpow
  fall_split zero n f = ap (λ k. fall ρ k f) (zero-add n) ∙ solve L (var 0) (one :* var 0 :+ zer) tt (fall ρ n f ∷ [])
  fall_split (suc m) n f =
      ap (λ k. fall ρ k f) (suc-add m n)
      ∙ ap (λ x. t * x + const (f (N.◌+◌ m n))) (fall_split m n f)
      ∙ solve L (var 0 :* (var 1 :* var 2 :+ var 3) :+ var 4) (var 0 :* var 1 :* var 2 :+ (var 0 :* var 3 :+ var 4)) tt (t ∷ tpow ρ m ∷ fall ρ n f ∷ fall ρ m (λ i. f (N.◌+◌ i n)) ∷ const (f (N.◌+◌ m n)) ∷ [])

  pub fall_zero : (n : ℕ) (f : ℕ → K.El) → ((i : ℕ) → i < n → f i ≡ 0ᵏ) → fall ρ n f ≡ 𝟎
  unfolding fall
  fall_zero zero f h = refl
  fall_zero (suc n) f h = ap₂ (λ x y. t * x + y) (fall_zero n f (λ i l. h i (omega arith))) (ap const (h n (omega arith)) ∙ const_zero ρ) ∙ solve L (var 0 :* zer :+ zer) zer tt (t ∷ [])

  pub fall_psum : (n : ℕ) (f g : ℕ → K.El) → ((i j : ℕ) → suc (N.◌+◌ i j) ≡ n → f i ≡ g j) → fall ρ n f ≡ psum ρ n g
  unfolding fall psum
  fall_psum zero f g h = refl
  fall_psum (suc n) f g h =
      fall_head n f
      ∙ ap₂ (λ x y. const x * tpow ρ n + y) (h 0 n (ap suc (zero-add n))) (fall_psum n (λ i. f (suc i)) g (λ i j e. h (suc i) j (ap suc (suc-add i j ∙ e))))
      ∙ L.laws.add_comm (const (g n) * tpow ρ n) (psum ρ n g)

  pub fall_inj : (n : ℕ) (f g : ℕ → K.El) → fall ρ n f ≡ fall ρ n g → (i : ℕ) → i < n → f i ≡ g i
  fall_inj n f g e i l =
      let back : (h : ℕ → K.El) → fall ρ n h ≡ psum ρ n (λ j. h (N.◌-◌ n (suc j))) = (λ h. fall_psum n h (λ j. h (N.◌-◌ n (suc j))) (λ k j q. ap h (let u : k ≡ N.◌-◌ n (suc j) = omega arith in u))) in
      let u : N.◌-◌ n (suc (N.◌-◌ n (suc i))) ≡ i = omega arith in
      sym (ap f u) ∙ psum_unique ρ n (λ j. f (N.◌-◌ n (suc j))) (λ j. g (N.◌-◌ n (suc j))) (sym (back f) ∙ e ∙ back g) (N.◌-◌ n (suc i)) (omega arith) ∙ ap g u

  -- ---- products
  pub fall_conv : (n : ℕ) (f g : ℕ → K.El) → fall ρ (suc n) (convᵏ f g) ≡ const (f 0) * fall ρ (suc n) g + fall ρ n (convᵏ (λ i. f (suc i)) g)
  unfolding fall conv
  fall_conv zero f g = ap (λ x. t * 𝟎 + x) (ρ.const_mul (f 0) (g 0)) ∙ solve L (var 0 :* zer :+ var 1 :* var 2) (var 1 :* (var 0 :* zer :+ var 2) :+ zer) tt (t ∷ const (f 0) ∷ const (g 0) ∷ [])
  fall_conv (suc n) f g =
      ap₂ (λ x y. t * x + y) (fall_conv n f g) (ρ.const_add (f 0 *ᵏ g (suc n)) (convᵏ (λ i. f (suc i)) g n) ∙ ap (λ x. x + const (convᵏ (λ i. f (suc i)) g n)) (ρ.const_mul (f 0) (g (suc n))))
      ∙ solve L (var 0 :* (var 1 :* var 2 :+ var 3) :+ (var 1 :* var 4 :+ var 5)) (var 1 :* (var 0 :* var 2 :+ var 4) :+ (var 0 :* var 3 :+ var 5)) tt
      (t ∷ const (f 0) ∷ fall ρ (suc n) g ∷ fall ρ n (convᵏ (λ i. f (suc i)) g) ∷ const (g (suc n)) ∷ const (convᵏ (λ i. f (suc i)) g n) ∷ [])

  pub fall_mul : (n : ℕ) (f g : ℕ → K.El) → (x : L.El) × Lt 𝓥 x n × (fall ρ (suc n) f * fall ρ (suc n) g ≡ tpow ρ n * fall ρ (suc n) (convᵏ f g) + x)
  unfolding fall tpow conv
  fall_mul zero f g = (
    𝟎,
    𝓥.lead_zero 0 0,
    solve L ((var 0 :* zer :+ var 1) :* (var 0 :* zer :+ var 2)) (one :* (var 0 :* zer :+ var 1 :* var 2) :+ zer) tt (t ∷ const (f 0) ∷ const (g 0) ∷ [])
        ∙ ap (λ x. 𝟏 * (t * 𝟎 + x) + 𝟎) (sym (ρ.const_mul (f 0) (g 0))),
  )
  fall_mul (suc n) f g =
      let f' : ℕ → K.El = (λ i. f (suc i)) in
      let F : L.El = fall ρ (suc n) f' in
      let G : L.El = fall ρ (suc n) g in
      let c : L.El = const (f 0) in
      let b : L.El = const (g (suc n)) in
      let C : L.El = fall ρ (suc n) (convᵏ f' g) in
      let (x, hx, e) = fall_mul n f' g in (
        t * x + b * F,
        lt_add 𝓥 (lead_eq 𝓥 (𝓥.lead_move (suc n) 0 (𝓥.lead_mul 𝓥.t_lead hx) (omega arith)) refl (r.mul-zero K 1ᵏ)) (lt_scale ρ (g (suc n)) (fall_lt (suc n) f')),
        ap (λ y. y * (t * G + b)) (fall_head (suc n) f)
            ∙ solve_by L ((var 0 :* (var 1 :* var 2) :+ var 3) :* (var 1 :* var 4 :+ var 5)) (var 1 :* var 2 :* (var 0 :* (var 1 :* var 4 :+ var 5) :+ var 6) :+ (var 1 :* var 7 :+ var 5 :* var 3))
            (hyp (var 1) (var 3 :* var 4) (var 2 :* var 6 :+ var 7) ∷ []) tt (c ∷ t ∷ tpow ρ n ∷ F ∷ G ∷ b ∷ C ∷ x ∷ []) (e, tt)
            ∙ ap (λ y. t * tpow ρ n * y + (t * x + b * F)) (sym (fall_conv (suc n) f g)),
      )
