-- The derivative of polynomials.
--   D_none           of 0
--   D_scale D_power  of c x and of t^(n+1)
--   D_lt             it lowers the degree
--   D_psum           of a sum of terms; derivative_law: of a row
use mathlib.Core.Path.{◌≡◌, refl, sym, ap, ap₂, ◌∙◌}
use mathlib.Core.List.{List, [], ◌∷◌}
use Prim.Native.Nat.{ℕ, zero, suc, ◌≤◌, ◌<◌, ◌%◌}
use Prim.Native.Nat as N
use native.Mathlib.Numerals.{add-one}
use native.Mathlib.Omega.{arith}
use lib.ListN.{length, get_or, get_or-eq_default}
use Rattle.math_ring.proofs.Laws as r
use Rattle.math_ring.proofs.Solve.{var, one, zer, minus, ◌:+◌, ◌:*◌, solve}
use Rattle.math_valued.specs.Degree.{Lt}
use Rattle.math_valued.proofs.Degree.{lead_eq, lt_eq, lt_add, lt_up}
use Rattle.math_rows.specs.Reading.{Reading}
use Rattle.math_rows.specs.Derivation.{Derivation}
use Rattle.math_rows.specs.Row.{tab, tpow, psum, coefs, row}
use Rattle.math_rows.proofs.Rows.{tpow_lead, tpow_poly, psum_cut, psum_ext, row_tab, row_32, const_zero}
use Rattle.math_rows.proofs.Turn.{lt_scale}

module _ {p : ℕ} (ρ : Reading p) (δ : Derivation ρ) where
  open ρ use {𝓥, cast}
  open 𝓥 use {K, L, Lead, const, t, IsPoly}
  open δ use {D}
  open K.ops use {add as ◌+ᵏ◌, mul as ◌*ᵏ◌, neg as -ᵏ◌, 𝟎 as 0ᵏ, 𝟏 as 1ᵏ}
  open L.ops use {add as ◌+◌, mul as ◌*◌, neg as -◌, 𝟎, 𝟏}

  infixl 60 ◌+◌ ◌+ᵏ◌
  infixl 70 ◌*◌ ◌*ᵏ◌
  infix 80 -◌ -ᵏ◌
  pub D_none : D 𝟎 ≡ 𝟎
  D_none = ap D (sym (const_zero ρ)) ∙ δ.D_const 0ᵏ

  pub D_one : D 𝟏 ≡ 𝟎
  D_one = ap D (sym ρ.const_one) ∙ δ.D_const 1ᵏ

  pub D_scale : (c : K.El) (x : L.El) → D (const c * x) ≡ const c * D x
  D_scale c x = δ.D_mul (const c) x ∙ ap (λ a. a * x + const c * D x) (δ.D_const c) ∙ solve L (zer :* var 0 :+ var 1) (var 1) tt (x ∷ const c * D x ∷ [])

  -- (t^(n+1))' = (n+1) t^n
  pub D_power : (n : ℕ) → D (tpow ρ (suc n)) ≡ const (cast (suc n)) * tpow ρ n
  unfolding tpow
  D_power zero = ap D (L.laws.mul-one t) ∙ δ.D_t ∙ sym (ap (λ a. const a * 𝟏) ρ.cast_one ∙ ap (λ a. a * 𝟏) ρ.const_one ∙ L.laws.mul-one 𝟏)
  D_power (suc n) =
      δ.D_mul t (t * tpow ρ n)
      ∙ ap₂ (λ a b. a * (t * tpow ρ n) + t * b) δ.D_t (D_power n)
      ∙ solve L (one :* (var 0 :* var 1) :+ var 0 :* (var 2 :* var 1)) ((var 2 :+ one) :* (var 0 :* var 1)) tt (t ∷ tpow ρ n ∷ const (cast (suc n)) ∷ [])
      ∙ ap (λ a. a * (t * tpow ρ n)) (sym (ap (λ m. const (cast m)) (sym (add-one (suc n))) ∙ ap const (ρ.cast_add (suc n) 1 ∙ ap (λ a. cast (suc n) +ᵏ a) ρ.cast_one) ∙ ρ.const_add (cast (suc n)) 1ᵏ ∙ ap (λ a. const (cast (suc n)) + a) ρ.const_one))

  power_lt : (n : ℕ) → Lt 𝓥 (D (tpow ρ n)) n
  unfolding tpow
  power_lt zero = lt_eq 𝓥 (𝓥.lead_zero 0 0) (sym D_one)
  power_lt (suc n) = lt_eq 𝓥 (lt_scale ρ (cast (suc n)) (𝓥.lead_up (suc n) 0 (tpow_lead ρ n) (omega arith))) (sym (D_power n))

  -- a leading term does, where all below it does
  lt_step : (n : ℕ) (x : L.El) → IsPoly x → Lt 𝓥 x (suc n) → ((y : L.El) → IsPoly y → Lt 𝓥 y n → Lt 𝓥 (D y) n) → Lt 𝓥 (D x) n
  lt_step n x hx h k =
      let (c, l) = 𝓥.lead_down h in
      let y : L.El = x + - (const c * tpow ρ n) in
      let hy : IsPoly y = 𝓥.closed.add _ _ hx (𝓥.closed.neg _ (𝓥.closed.mul _ _ (𝓥.const_poly c) (tpow_poly ρ n))) in
      let s : Lead (const c * tpow ρ n) n 0 c = lead_eq 𝓥 (𝓥.lead_move n 0 (𝓥.lead_mul (𝓥.const_lead c) (tpow_lead ρ n)) (omega arith)) refl (K.laws.mul-one c) in
      let low : Lt 𝓥 y n = lead_eq 𝓥 (𝓥.lead_add (𝓥.lead_move n 0 l (omega arith)) (𝓥.lead_neg s)) refl (K.laws.add_neg c) in
      lt_eq 𝓥 (lt_add 𝓥 (k y hy low) (lt_scale ρ c (power_lt n)))
      (ap (λ a. D y + a) (sym (D_scale c (tpow ρ n))) ∙ sym (δ.D_add y (const c * tpow ρ n)) ∙ ap D (solve L (var 0 :+ minus (var 1) :+ var 1) (var 0) tt (x ∷ const c * tpow ρ n ∷ [])))

  -- deg x ≤ n gives deg x' < n
  pub D_lt : (n : ℕ) (x : L.El) → IsPoly x → Lt 𝓥 x (suc n) → Lt 𝓥 (D x) n
  D_lt zero x hx h = lt_step zero x hx h (λ y hy l. lt_eq 𝓥 (𝓥.lead_zero 0 0) (sym (ap D (𝓥.poly_small y hy l) ∙ D_none)))
  D_lt (suc n) x hx h = lt_step (suc n) x hx h (λ y hy l. lt_up 𝓥 (suc n) (D_lt n y hy l) (omega arith))

  pub D_psum : (n : ℕ) (f : ℕ → K.El) → D (psum ρ (suc n) f) ≡ psum ρ n (λ i. cast (suc i) *ᵏ f (suc i))
  unfolding psum tpow
  D_psum zero f = δ.D_add 𝟎 (const (f 0) * 𝟏) ∙ ap₂ ◌+◌ D_none (D_scale (f 0) 𝟏 ∙ ap (λ a. const (f 0) * a) D_one) ∙ solve L (zer :+ var 0 :* zer) zer tt (const (f 0) ∷ [])
  D_psum (suc n) f =
      δ.D_add (psum ρ (suc n) f) (const (f (suc n)) * tpow ρ (suc n))
      ∙ ap₂ ◌+◌ (D_psum n f) (D_scale (f (suc n)) (tpow ρ (suc n)) ∙ ap (λ a. const (f (suc n)) * a) (D_power n))
      ∙ ap (λ a. psum ρ n (λ i. cast (suc i) *ᵏ f (suc i)) + a)
      (solve L (var 0 :* (var 1 :* var 2)) (var 1 :* var 0 :* var 2) tt (const (f (suc n)) ∷ const (cast (suc n)) ∷ tpow ρ n ∷ [])
      ∙ ap (λ a. a * tpow ρ n) (sym (ρ.const_mul (cast (suc n)) (f (suc n)))))

  pub derivative_law : (x : List ℕ) → length x ≡ 32 → row ρ (tab 32 (λ i. N.◌*◌ (N.◌+◌ i 1) (get_or x (N.◌+◌ i 1) 0) % p)) ≡ D (row ρ x)
  derivative_law x s =
      row_tab ρ 32 (λ i. N.◌*◌ (N.◌+◌ i 1) (get_or x (N.◌+◌ i 1) 0) % p)
      ∙ psum_ext ρ 32 (λ i. cast (N.◌*◌ (N.◌+◌ i 1) (get_or x (N.◌+◌ i 1) 0) % p)) g at
      ∙ psum_cut ρ 31 1 g none
      ∙ sym (D_psum 31 (coefs ρ x))
      ∙ ap D (sym (row_32 ρ x s))
    where
      g : ℕ → K.El
      g i = cast (suc i) *ᵏ coefs ρ x (suc i)

      at : (i : ℕ) → i < 32 → cast (N.◌*◌ (N.◌+◌ i 1) (get_or x (N.◌+◌ i 1) 0) % p) ≡ cast (suc i) *ᵏ coefs ρ x (suc i)
      at i l = ρ.cast_mod (N.◌*◌ (N.◌+◌ i 1) (get_or x (N.◌+◌ i 1) 0)) ∙ ap (λ j. cast (N.◌*◌ j (get_or x j 0))) (add-one i) ∙ ρ.cast_mul (suc i) (get_or x (suc i) 0)

      none : (i : ℕ) → 31 ≤ i → cast (suc i) *ᵏ coefs ρ x (suc i) ≡ 0ᵏ
      none i l = ap (λ a. cast (suc i) *ᵏ a) (ap cast (get_or-eq_default x 0 {n = suc i} (omega arith)) ∙ ρ.cast_zero) ∙ r.mul-zero K (cast (suc i))
