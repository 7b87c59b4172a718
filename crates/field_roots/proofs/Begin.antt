-- The laws of `Begins`.
--   begins_none               no coefficient: a bound of the degree
--   begins_ext, begins_lead   by its coefficients; the first leads
--   begins_mul                a product begins with the coefficients of the product
--   begins_close, begins_near one beginning, one series but for what lies below it
--   begins_unique               a series has one beginning
--   begins_row                a row begins with its coefficients, read from the top
--   begins_cut, begins_floor  fewer coefficients; the polynomial parts of t^k z
--   stand_in                  a series that begins so
--   cast_conv                 the coefficients of a product of numbers, in the field
use mathlib.Core.Path.{◌≡◌, refl, sym, ap, ap₂, ◌∙◌, subst}
use mathlib.Core.List.{List, [], ◌∷◌}
use Prim.Native.Nat.{ℕ, zero, suc, ◌≤◌, ◌<◌}
use Prim.Native.Nat as N
use native.Mathlib.Nat.{suc-add}
use native.Mathlib.Decide.{dec_le}
use native.Mathlib.Omega.{arith}
use lib.ListN.{length, get_or}
use Rattle.base_lists.specs.Sums.{conv}
use Rattle.math_ring.specs.Ring.{CRing}
use Rattle.math_ring.proofs.Laws as r
use Rattle.math_ring.proofs.Solve.{var, one, zer, minus, ◌:+◌, ◌:*◌, hyp, solve, solve_by}
use Rattle.math_valued.specs.Degree.{Has, Lt}
use Rattle.math_valued.proofs.Degree.{lead_eq, lt_eq, lt_add, lt_neg, lt_up, lt_cancel}
use Rattle.math_rows.specs.Reading.{Reading}
use Rattle.math_rows.specs.Row.{tab, tpow, psum, coefs, row, fall_at, Floor}
use Rattle.math_rows.proofs.Rows.{tpow_add, tpow_lead, psum_cut, row_tab}
use Rattle.math_rows.proofs.Floors.{fall_in, fall_out}
use Rattle.math_valued.proofs.Compare.{lt_mul_sharp}
use Rattle.field_roots.specs.First.{fall, Begins}
use Rattle.field_roots.proofs.First.{convᵏ, fall_ext, fall_poly, fall_lt, fall_lead, fall_split, fall_zero, fall_psum, fall_inj, fall_mul}

module _ {p : ℕ} (ρ : Reading p) where
  open ρ use {𝓥, cast}
  open 𝓥 use {K, L, Lead, const, t, IsPoly}
  open K.ops use {add as ◌+ᵏ◌, mul as ◌*ᵏ◌, neg as -ᵏ◌, 𝟎 as 0ᵏ, 𝟏 as 1ᵏ}
  open L.ops use {add as ◌+◌, mul as ◌*◌, neg as -◌, 𝟎, 𝟏}

  infixl 60 ◌+◌ ◌+ᵏ◌
  infixl 70 ◌*◌ ◌*ᵏ◌
  infix 80 -◌ -ᵏ◌
  abbrev T : ℕ → L.El
  T = tpow ρ

  pub t_has : (n : ℕ) → Has 𝓥 (T n) n
  t_has n = (1ᵏ, 𝓥.one≢zero, tpow_lead ρ n)

  pub t_lt : {x : L.El} {k : ℕ} (n : ℕ) → Lt 𝓥 x k → Lt 𝓥 (T n * x) (N.◌+◌ n k)
  t_lt n h = lead_eq 𝓥 (𝓥.lead_mul (tpow_lead ρ n) h) refl (r.mul-zero K 1ᵏ)

  -- 1/t^n
  t_inv : (n : ℕ) → (y : L.El) × (T n * y ≡ 𝟏) × Lead y 0 n 1ᵏ
  t_inv n =
      let (y, b, e, h) = 𝓥.lead_inv (tpow_lead ρ n) 𝓥.one≢zero in
      let one_is : b ≡ 1ᵏ = sym (r.one-mul K b) ∙ 𝓥.lead_unique (𝓥.lead_move 0 0 (lead_eq 𝓥 (𝓥.lead_mul (tpow_lead ρ n) h) e refl) (omega arith)) 𝓥.lead_one in
      (y, e, lead_eq 𝓥 h refl one_is)

  -- what t^n times z leads with, z leads with
  t_lead : {z : L.El} {d : ℕ} {a : K.El} (n : ℕ) → Lead (T n * z) (N.◌+◌ n d) 0 a → Lead z d 0 a
  t_lead {z} {d} {a} n h =
      let (y, e, g) = t_inv n in
      lead_eq 𝓥 (𝓥.lead_move d 0 (𝓥.lead_mul g h) (omega arith)) (solve_by L (var 1 :* (var 0 :* var 2)) (var 2) (hyp (var 2) (var 0 :* var 1) one ∷ []) tt (T n ∷ y ∷ z ∷ []) (e, tt)) (r.one-mul K a)

  pub begins_none : {z : L.El} {c : K.El} (f : ℕ → K.El) (d : ℕ) → Lead z d 0 c → Begins ρ 0 f d z
  unfolding fall tpow
  begins_none {z} f d h = lt_eq 𝓥 (𝓥.lead_up (suc d) 0 h (omega arith)) (solve L (var 0) (one :* var 0 :+ minus (var 1 :* zer)) tt (z ∷ T (suc d) ∷ []))

  pub begins_ext : {z : L.El} {d : ℕ} (n : ℕ) (f g : ℕ → K.El) → ((i : ℕ) → i < n → f i ≡ g i) → Begins ρ n f d z → Begins ρ n g d z
  begins_ext {z} {d} n f g h b = lt_eq 𝓥 b (ap (λ x. T n * z + - (T (suc d) * x)) (fall_ext ρ n f g h))

  pub begins_lead : {z : L.El} {d : ℕ} (n : ℕ) (f : ℕ → K.El) → Begins ρ (suc n) f d z → Lead z d 0 (f 0)
  begins_lead {z} {d} n f b =
      t_lead (suc n)
      (lead_eq 𝓥 (𝓥.lead_add (𝓥.lead_move (N.◌+◌ (suc n) d) 0 (𝓥.lead_mul (tpow_lead ρ (suc d)) (fall_lead ρ n f)) (omega arith)) (lt_up 𝓥 (N.◌+◌ (suc n) d) b (omega arith)))
      (solve L (var 0 :+ (var 1 :+ minus (var 0))) (var 1) tt (T (suc d) * fall ρ (suc n) f ∷ T (suc n) * z ∷ []))
      (solve K (one :* var 0 :+ zer) (var 0) tt (f 0 ∷ [])))

  pub begins_mul : {z y : L.El} {d e : ℕ} (n : ℕ) (f g : ℕ → K.El) → Begins ρ (suc n) f d z → Begins ρ (suc n) g e y → Begins ρ (suc n) (convᵏ ρ f g) (N.◌+◌ d e) (z * y)
  unfolding tpow
  begins_mul {z} {y} {d} {e} n f g hz hy =
      let F : L.El = fall ρ (suc n) f in
      let G : L.El = fall ρ (suc n) g in
      let A : L.El = T (suc d) in
      let B : L.El = T (suc e) in
      let P : L.El = T (suc (N.◌+◌ d e)) in
      let C : L.El = fall ρ (suc n) (convᵏ ρ f g) in
      let (x, hx, fg) = fall_mul ρ n f g in
      let ab : A * B ≡ t * P = sym (tpow_add ρ (suc d) (suc e)) ∙ ap T (let q : N.◌+◌ (suc d) (suc e) ≡ suc (suc (N.◌+◌ d e)) = omega arith in q) in
      let k : ℕ = N.◌+◌ (suc n) (suc (N.◌+◌ d e)) in
      let x_lt : Lt 𝓥 (A * (B * x)) k = lt_up 𝓥 k (t_lt (suc d) (t_lt (suc e) hx)) (omega arith) in
      let y_lt : Lt 𝓥 (A * (F * (t * T n * y + - (B * G)))) k = lt_up 𝓥 k (t_lt (suc d) (lt_mul_sharp 𝓥 (fall_lt ρ (suc n) f) hy)) (omega arith) in
      let z_lt : Lt 𝓥 (B * (G * (t * T n * z + - (A * F)))) k = lt_up 𝓥 k (t_lt (suc e) (lt_mul_sharp 𝓥 (fall_lt ρ (suc n) g) hz)) (omega arith) in
      let w-lt : Lt 𝓥 ((t * T n * z + - (A * F)) * (t * T n * y + - (B * G))) k = lt_up 𝓥 k (lt_mul_sharp 𝓥 hz hy) (omega arith) in
      lt_cancel 𝓥 (suc (N.◌+◌ d e)) (t_has (suc n))
      (lt_eq 𝓥 (lt_add 𝓥 (lt_add 𝓥 x_lt y_lt) (lt_add 𝓥 z_lt w-lt))
      (solve_by L
      (var 0 :* (var 1 :* var 2) :+ var 0 :* (var 3 :* (var 4 :* var 5 :* var 6 :+ minus (var 1 :* var 7))) :+ (var 1 :* (var 7 :* (var 4 :* var 5 :* var 8 :+ minus (var 0 :* var 3))) :+ (var 4 :* var 5 :* var 8 :+ minus (var 0 :* var 3)) :* (var 4 :* var 5 :* var 6 :+ minus (var 1 :* var 7))))
      (var 4 :* var 5 :* (var 4 :* var 5 :* (var 8 :* var 6) :+ minus (var 9 :* var 10)))
      (hyp (minus (var 0 :* var 1)) (var 3 :* var 7) (var 5 :* var 10 :+ var 2) ∷ hyp (minus (var 5 :* var 10)) (var 0 :* var 1) (var 4 :* var 9) ∷ []) tt
      (A ∷ B ∷ x ∷ F ∷ t ∷ T n ∷ y ∷ G ∷ z ∷ P ∷ C ∷ []) (fg, (ab, tt))))

  pub begins_close : {z y : L.El} {d : ℕ} (n : ℕ) (f g : ℕ → K.El) → ((i : ℕ) → i < n → f i ≡ g i) → Begins ρ n f d z → Begins ρ n g d y → Lt 𝓥 (T n * (z + - y)) (suc d)
  begins_close {z} {y} {d} n f g h hz hy =
      lt_eq 𝓥 (lt_add 𝓥 (begins_ext n f g h hz) (lt_neg 𝓥 hy))
      (solve L (var 0 :* var 1 :+ minus (var 3) :+ minus (var 0 :* var 2 :+ minus (var 3))) (var 0 :* (var 1 :+ minus (var 2))) tt (T n ∷ z ∷ y ∷ T (suc d) * fall ρ n g ∷ []))

  pub begins_near : {z y : L.El} {d : ℕ} (n : ℕ) (f : ℕ → K.El) → Lt 𝓥 (T n * (z + - y)) (suc d) → Begins ρ n f d y → Begins ρ n f d z
  begins_near {z} {y} {d} n f h hy =
      lt_eq 𝓥 (lt_add 𝓥 h hy) (solve L (var 0 :* (var 1 :+ minus (var 2)) :+ (var 0 :* var 2 :+ minus (var 3))) (var 0 :* var 1 :+ minus (var 3)) tt (T n ∷ z ∷ y ∷ T (suc d) * fall ρ n f ∷ []))

  pub begins_unique : {z : L.El} {d : ℕ} (n : ℕ) (f g : ℕ → K.El) → Begins ρ n f d z → Begins ρ n g d z → (i : ℕ) → i < n → f i ≡ g i
  begins_unique {z} {d} n f g hf hg =
      let F : L.El = fall ρ n f in
      let G : L.El = fall ρ n g in
      let small : Lt 𝓥 (T (suc d) * (F + - G)) (N.◌+◌ (suc d) 0) =
      lt_up 𝓥 (N.◌+◌ (suc d) 0)
      (lt_eq 𝓥 (lt_add 𝓥 hg (lt_neg 𝓥 hf)) (solve L (var 0 :+ minus (var 1 :* var 3) :+ minus (var 0 :+ minus (var 1 :* var 2))) (var 1 :* (var 2 :+ minus (var 3))) tt (T n * z ∷ T (suc d) ∷ F ∷ G ∷ []))) (omega arith) in
      let gone : F + - G ≡ 𝟎 = 𝓥.poly_small (F + - G) (𝓥.closed.add _ _ (fall_poly ρ n f) (𝓥.closed.neg _ (fall_poly ρ n g))) (lt_cancel 𝓥 0 (t_has (suc d)) small) in
      fall_inj ρ n f g (r.eq_of_sub L F G gone)

  -- fewer coefficients
  pub begins_cut : {z : L.El} {d : ℕ} (m k : ℕ) (f : ℕ → K.El) → Begins ρ (N.◌+◌ k m) f d z → Begins ρ m f d z
  begins_cut {z} {d} m k f h =
      let low : L.El = fall ρ k (λ i. f (N.◌+◌ i m)) in
      let A : L.El = T (suc d) in
      lt_cancel 𝓥 (suc d) (t_has k)
      (lt_up 𝓥 (N.◌+◌ k (suc d))
      (lt_eq 𝓥 (lt_add 𝓥 (lt_up 𝓥 (N.◌+◌ (suc d) k) h (omega arith)) (t_lt (suc d) (fall_lt ρ k (λ i. f (N.◌+◌ i m)))))
      (ap₂ (λ x y. x * z + - (A * y) + A * low) (tpow_add ρ k m) (fall_split ρ k m f)
      ∙ solve L (var 0 :* var 1 :* var 2 :+ minus (var 3 :* (var 0 :* var 4 :+ var 5)) :+ var 3 :* var 5) (var 0 :* (var 1 :* var 2 :+ minus (var 3 :* var 4))) tt (T k ∷ T m ∷ z ∷ A ∷ fall ρ m f ∷ low ∷ []))) (omega arith))

  -- its first d + k + 1 coefficients are the polynomial part of t^k z
  pub begins_floor : {z : L.El} {d : ℕ} (n k : ℕ) (s : List ℕ) → N.◌+◌ d k < n → N.◌+◌ d k < 32 → Begins ρ n (λ i. cast (get_or s i 0)) d z → Floor ρ (T k * z) (tab 32 (fall_at s (N.◌+◌ d k)))
  begins_floor {z} {d} n k s l u h =
      let m : ℕ = N.◌+◌ (suc d) k in
      let f : ℕ → K.El = (λ i. cast (get_or s i 0)) in
      let g : ℕ → K.El = (λ i. cast (fall_at s (N.◌+◌ d k) i)) in
      let e : n ≡ N.◌+◌ (N.◌-◌ n m) m = omega arith in
      let o : 32 ≡ N.◌+◌ (N.◌-◌ 32 m) m = omega arith in
      let q : m ≡ suc (N.◌+◌ d k) = suc-add d k in
      let same : fall ρ m f ≡ row ρ (tab 32 (fall_at s (N.◌+◌ d k))) =
      fall_psum ρ m f g (λ i j y. ap cast (sym (fall_in s (N.◌+◌ d k) j (omega arith) ∙ ap (λ v. get_or s v 0) (let x : N.◌-◌ (N.◌+◌ d k) j ≡ i = omega arith in x))))
      ∙ sym (ap (λ v. psum ρ v g) o ∙ psum_cut ρ m (N.◌-◌ 32 m) g (λ i y. ap cast (fall_out s (N.◌+◌ d k) i (omega arith)) ∙ ρ.cast_zero))
      ∙ sym (row_tab ρ 32 (fall_at s (N.◌+◌ d k))) in
      lt_cancel 𝓥 0 (t_has (suc d))
      (lt_up 𝓥 (N.◌+◌ (suc d) 0)
      (lt_eq 𝓥 (begins_cut m (N.◌-◌ n m) f (subst (λ v. Begins ρ v f d z) e h))
      (ap₂ (λ x y. x * z + - (T (suc d) * y)) (tpow_add ρ (suc d) k) same
      ∙ solve L (var 0 :* var 1 :* var 2 :+ minus (var 0 :* var 3)) (var 0 :* (var 1 :* var 2 :+ minus (var 3))) tt (T (suc d) ∷ T k ∷ z ∷ row ρ (tab 32 (fall_at s (N.◌+◌ d k))) ∷ []))) (omega arith))

  pub stand_in : (n : ℕ) (f : ℕ → K.El) (d : ℕ) → (z : L.El) × Begins ρ n f d z
  stand_in n f d =
      let (y, e, h) = t_inv n in
      let A : L.El = T (suc d) * fall ρ n f in
      (y * A, lead_eq 𝓥 (𝓥.lead_zero (suc d) 0) (solve_by L zer (var 0 :* (var 1 :* var 2) :+ minus (var 2)) (hyp (minus (var 2)) (var 0 :* var 1) one ∷ []) tt (T n ∷ y ∷ A ∷ []) (e, tt)) refl)

  -- ---- rows
  begins_poly : (n d : ℕ) (f : ℕ → K.El) → ((i : ℕ) → d < i → f i ≡ 0ᵏ) → Begins ρ n f d (fall ρ (suc d) f)
  begins_poly n d f h = go (dec_le n (suc d))
    where
      go : Dec (n ≤ suc d) → Begins ρ n f d (fall ρ (suc d) f)
      go (yes l) =
          let m : ℕ = N.◌-◌ (suc d) n in
          let e : suc d ≡ N.◌+◌ m n = omega arith in
          let low : L.El = fall ρ m (λ i. f (N.◌+◌ i n)) in
          lt_eq 𝓥 (lt_up 𝓥 (suc d) (t_lt n (fall_lt ρ m (λ i. f (N.◌+◌ i n)))) (omega arith))
          (solve L (var 0 :* var 1) (var 0 :* (var 2 :* var 3 :+ var 1) :+ minus (var 2 :* var 0 :* var 3)) tt (T n ∷ low ∷ T m ∷ fall ρ n f ∷ [])
          ∙ ap₂ (λ x y. T n * x + - (y * fall ρ n f)) (sym (ap (λ k. fall ρ k f) e ∙ fall_split ρ m n f)) (sym (ap T e ∙ tpow_add ρ m n)))
      go (no l) =
          let m : ℕ = N.◌-◌ n (suc d) in
          let e : n ≡ N.◌+◌ m (suc d) = omega arith in
          let z : L.El = fall ρ (suc d) f in
          lead_eq 𝓥 (𝓥.lead_zero (suc d) 0)
          (solve L zer (var 0 :* var 1 :* var 2 :+ minus (var 1 :* (var 0 :* var 2 :+ zer))) tt (T m ∷ T (suc d) ∷ z ∷ [])
          ∙ ap (λ x. T m * T (suc d) * z + - (T (suc d) * (T m * z + x))) (sym (fall_zero ρ m (λ i. f (N.◌+◌ i (suc d))) (λ i u. h (N.◌+◌ i (suc d)) (omega arith))))
          ∙ ap₂ (λ x y. x * z + - (T (suc d) * y)) (sym (ap T e ∙ tpow_add ρ m (suc d))) (sym (ap (λ k. fall ρ k f) e ∙ fall_split ρ m (suc d) f))) refl

  pub begins_row : (n d : ℕ) (l : List ℕ) → length l ≡ suc d → Begins ρ n (λ i. cast (fall_at l d i)) d (row ρ l)
  unfolding row
  begins_row n d l e =
      let f : ℕ → K.El = (λ i. cast (fall_at l d i)) in
      let same : fall ρ (suc d) f ≡ row ρ l =
      fall_psum ρ (suc d) f (coefs ρ l)
      (λ i j q. ap cast (fall_in l d i (omega arith) ∙ ap (λ m. get_or l m 0) (let u : N.◌-◌ d i ≡ j = omega arith in u)))
      ∙ ap (λ m. psum ρ m (coefs ρ l)) (sym e) in
      lt_eq 𝓥 (begins_poly n d f (λ i u. ap cast (fall_out l d i u) ∙ ρ.cast_zero)) (ap (λ x. T n * x + - (T (suc d) * fall ρ n f)) same)

  pub cast_conv : (n : ℕ) (f g : ℕ → ℕ) → cast (conv N.◌+◌ N.◌*◌ f g n) ≡ convᵏ ρ (λ i. cast (f i)) (λ i. cast (g i)) n
  unfolding conv
  cast_conv zero f g = ρ.cast_mul (f 0) (g 0)
  cast_conv (suc n) f g = ρ.cast_add (N.◌*◌ (f 0) (g (suc n))) _ ∙ ap₂ ◌+ᵏ◌ (ρ.cast_mul (f 0) (g (suc n))) (cast_conv n (λ i. f (suc i)) g)
