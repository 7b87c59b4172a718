-- A row as a polynomial, in any reading: row l = Σ cast(l_i) t^i. One law for each leaf of the code, then degrees from trimmed
-- lengths: a row of trimmed length n lies below degree n, and where n = d + 1 it has degree d and its top entry leads.
use mathlib.Core.Path.{◌≡◌, refl, sym, ap, ap₂, ◌∙◌, subst}
use mathlib.Core.Logic.{◌≢◌}
use mathlib.Core.List.{List, [], ◌∷◌}
use Prim.Native.Nat.{ℕ, zero, suc, ◌≤◌, ◌<◌, ◌%◌}
use Prim.Native.Nat as N
use native.Mathlib.Nat.{mod_self, zero-add, suc-add}
use native.Mathlib.Omega.{arith}
use native.Mathlib.Decide.{dec_le}
use lib.ListN.{length, get_or, get_or-eq_default}
use Rattle.math_ring.proofs.Laws as r
use Rattle.math_ring.proofs.Solve.{var, one, zer, minus, ◌:+◌, ◌:*◌, solve}
use Rattle.math_valued.specs.Degree.{Has, Lt}
use Rattle.math_valued.proofs.Degree.{lead_eq, lt_add, lt_up, above}
use Rattle.math_rows.specs.Reading.{Reading}
use Rattle.math_rows.specs.Row.{tab, Row, Size, shift_at, tpow, psum, coefs, row}
use Rattle.math_rows.proofs.Tab.{length_tab, at_tab, shift_low, shift_high, cross_at}

module _ {p : ℕ} (ρ : Reading p) where
  open ρ use {𝓥, cast}
  open 𝓥 use {K, L, Lead, const, t, IsPoly}
  open K.ops use {add as ◌+ᵏ◌, mul as ◌*ᵏ◌, neg as -ᵏ◌, 𝟎 as 0ᵏ, 𝟏 as 1ᵏ}
  open L.ops use {add as ◌+◌, mul as ◌*◌, neg as -◌, 𝟎, 𝟏}

  infixl 60 ◌+◌ ◌+ᵏ◌
  infixl 70 ◌*◌ ◌*ᵏ◌
  infix 80 -◌ -ᵏ◌
  -- ---- constants
  pub const_zero : const 0ᵏ ≡ 𝟎
  const_zero = r.add_cancel L (const 0ᵏ) 𝟎 (const 0ᵏ) (sym (ρ.const_add 0ᵏ 0ᵏ) ∙ ap const (K.laws.add-zero 0ᵏ) ∙ sym (r.zero_add' L (const 0ᵏ)))

  pub const_neg : (a : K.El) → const (-ᵏ a) ≡ - const a
  const_neg a = r.neg_unique L (const a) (const (-ᵏ a)) (sym (ρ.const_add a (-ᵏ a)) ∙ ap const (K.laws.add_neg a) ∙ const_zero)

  pub cast_sub : (a : ℕ) → a ≤ p → cast (N.◌-◌ p a) ≡ -ᵏ cast a
  cast_sub a l =
      let e : N.◌+◌ a (N.◌-◌ p a) ≡ p = omega arith in
      let z : p % p ≡ 0 = mod_self p in
      r.neg_unique K (cast a) (cast (N.◌-◌ p a)) (sym (ρ.cast_add a (N.◌-◌ p a)) ∙ ap cast e ∙ sym (ρ.cast_mod p) ∙ ap cast z ∙ ρ.cast_zero)

  -- ---- sums
  pub psum_ext : (n : ℕ) (f g : ℕ → K.El) → ((i : ℕ) → i < n → f i ≡ g i) → psum ρ n f ≡ psum ρ n g
  unfolding psum
  psum_ext zero f g h = refl
  psum_ext (suc n) f g h = ap₂ (λ x y. x + const y * tpow ρ n) (psum_ext n f g (λ i l. h i (omega arith))) (h n (omega arith))

  pub psum_scale : (n : ℕ) (k : K.El) (f : ℕ → K.El) → psum ρ n (λ i. k *ᵏ f i) ≡ const k * psum ρ n f
  unfolding psum
  psum_scale zero k f = sym (r.mul-zero L (const k))
  psum_scale (suc n) k f =
      ap₂ (λ x y. x + y * tpow ρ n) (psum_scale n k f) (ρ.const_mul k (f n))
      ∙ solve L (var 0 :* var 1 :+ var 0 :* var 2 :* var 3) (var 0 :* (var 1 :+ var 2 :* var 3)) tt (const k ∷ psum ρ n f ∷ const (f n) ∷ tpow ρ n ∷ [])

  pub psum_cut : (n j : ℕ) (f : ℕ → K.El) → ((i : ℕ) → n ≤ i → f i ≡ 0ᵏ) → psum ρ (N.◌+◌ j n) f ≡ psum ρ n f
  unfolding psum
  psum_cut n zero f h = ap (λ m. psum ρ m f) (zero-add n)
  psum_cut n (suc j) f h =
      ap (λ m. psum ρ m f) (suc-add j n)
      ∙ ap₂ (λ x y. x + y * tpow ρ (N.◌+◌ j n)) (psum_cut n j f h) (ap const (h (N.◌+◌ j n) (omega arith)) ∙ const_zero)
      ∙ solve L (var 0 :+ zer :* var 1) (var 0) tt (psum ρ n f ∷ tpow ρ (N.◌+◌ j n) ∷ [])

  pub psum_cross : (n : ℕ) (s c : K.El) (f g : ℕ → K.El) → psum ρ n (λ i. s *ᵏ f i +ᵏ -ᵏ (c *ᵏ g i)) ≡ const s * psum ρ n f + - (const c * psum ρ n g)
  unfolding psum
  psum_cross zero s c f g = solve L zer (var 0 :* zer :+ minus (var 1 :* zer)) tt (const s ∷ const c ∷ [])
  psum_cross (suc n) s c f g =
      ap₂ (λ x y. x + y * tpow ρ n) (psum_cross n s c f g) (ρ.const_add (s *ᵏ f n) (-ᵏ (c *ᵏ g n)) ∙ ap₂ ◌+◌ (ρ.const_mul s (f n)) (const_neg (c *ᵏ g n) ∙ ap (λ x. - x) (ρ.const_mul c (g n))))
      ∙ solve L (var 0 :* var 2 :+ minus (var 1 :* var 3) :+ (var 0 :* var 4 :+ minus (var 1 :* var 5)) :* var 6)
      (var 0 :* (var 2 :+ var 4 :* var 6) :+ minus (var 1 :* (var 3 :+ var 5 :* var 6))) tt
      (const s ∷ const c ∷ psum ρ n f ∷ psum ρ n g ∷ const (f n) ∷ const (g n) ∷ tpow ρ n ∷ [])

  pub tpow_add : (n k : ℕ) → tpow ρ (N.◌+◌ n k) ≡ tpow ρ n * tpow ρ k
  unfolding tpow
  tpow_add zero k = ap (tpow ρ) (zero-add k) ∙ sym (r.one-mul L (tpow ρ k))
  tpow_add (suc n) k = ap (tpow ρ) (suc-add n k) ∙ ap (λ x. t * x) (tpow_add n k) ∙ sym (L.laws.mul_assoc t (tpow ρ n) (tpow ρ k))

  -- g is f moved up by k
  pub psum_shift : (k n : ℕ) (f g : ℕ → K.El) → ((i : ℕ) → i < k → g i ≡ 0ᵏ) → ((i : ℕ) → g (N.◌+◌ i k) ≡ f i) → psum ρ (N.◌+◌ n k) g ≡ tpow ρ k * psum ρ n f
  unfolding psum
  psum_shift k zero f g lo hi = ap (λ m. psum ρ m g) (zero-add k) ∙ none k lo ∙ sym (r.mul-zero L (tpow ρ k))
    where
      none : (j : ℕ) → ((i : ℕ) → i < j → g i ≡ 0ᵏ) → psum ρ j g ≡ 𝟎
      none zero h = refl
      none (suc j) h = ap₂ (λ x y. x + y * tpow ρ j) (none j (λ i l. h i (omega arith))) (ap const (h j (omega arith)) ∙ const_zero) ∙ solve L (zer :+ zer :* var 0) zer tt (tpow ρ j ∷ [])
  psum_shift k (suc n) f g lo hi =
      ap (λ m. psum ρ m g) (suc-add n k)
      ∙ ap₂ (λ x y. x + y) (psum_shift k n f g lo hi) (ap₂ (λ x y. const x * y) (hi n) (tpow_add n k))
      ∙ solve L (var 0 :* var 1 :+ var 2 :* (var 3 :* var 0)) (var 0 :* (var 1 :+ var 2 :* var 3)) tt (tpow ρ k ∷ psum ρ n f ∷ const (f n) ∷ tpow ρ n ∷ [])

  pub tpow_poly : (k : ℕ) → IsPoly (tpow ρ k)
  unfolding tpow
  tpow_poly zero = 𝓥.closed.𝟏
  tpow_poly (suc k) = 𝓥.closed.mul _ _ 𝓥.t_poly (tpow_poly k)

  pub psum_poly : (n : ℕ) (f : ℕ → K.El) → IsPoly (psum ρ n f)
  unfolding psum
  psum_poly zero f = 𝓥.closed.𝟎
  psum_poly (suc n) f = 𝓥.closed.add _ _ (psum_poly n f) (𝓥.closed.mul _ _ (𝓥.const_poly (f n)) (tpow_poly n))

  pub row_poly : (l : List ℕ) → IsPoly (row ρ l)
  unfolding row
  row_poly l = psum_poly (length l) (coefs ρ l)

  -- ---- degrees
  pub tpow_lead : (k : ℕ) → Lead (tpow ρ k) k 0 1ᵏ
  unfolding tpow
  tpow_lead zero = 𝓥.lead_one
  tpow_lead (suc k) = lead_eq 𝓥 (𝓥.lead_move (suc k) 0 (𝓥.lead_mul 𝓥.t_lead (tpow_lead k)) (omega arith)) refl (r.one-mul K 1ᵏ)

  pub term_lead : (a : K.El) (n : ℕ) → Lead (const a * tpow ρ n) n 0 a
  term_lead a n = lead_eq 𝓥 (𝓥.lead_move n 0 (𝓥.lead_mul (𝓥.const_lead a) (tpow_lead n)) (omega arith)) refl (K.laws.mul-one a)

  pub psum_lt : (n : ℕ) (f : ℕ → K.El) → Lt 𝓥 (psum ρ n f) n
  unfolding psum
  psum_lt zero f = 𝓥.lead_zero 0 0
  psum_lt (suc n) f = lt_add 𝓥 (lt_up 𝓥 (suc n) (psum_lt n f) (omega arith)) (𝓥.lead_up (suc n) 0 (term_lead (f n) n) (omega arith))

  pub psum_lead : (n : ℕ) (f : ℕ → K.El) → Lead (psum ρ (suc n) f) n 0 (f n)
  unfolding psum
  psum_lead n f = lead_eq 𝓥 (𝓥.lead_add (psum_lt n f) (term_lead (f n) n)) refl (r.zero_add' K (f n))

  -- a list's polynomial by any number of terms that reaches past its last entry that is not 0
  pub row_upto : (l : List ℕ) (n : ℕ) → ((i : ℕ) → n ≤ i → get_or l i 0 ≡ 0) → row ρ l ≡ psum ρ n (coefs ρ l)
  unfolding row
  row_upto l n h = go (dec_le n (length l))
    where
      none : (i : ℕ) → n ≤ i → coefs ρ l i ≡ 0ᵏ
      none i u = ap cast (h i u) ∙ ρ.cast_zero

      past : (i : ℕ) → length l ≤ i → coefs ρ l i ≡ 0ᵏ
      past i u = ap cast (get_or-eq_default l 0 {n = i} u) ∙ ρ.cast_zero

      go : Dec (n ≤ length l) → psum ρ (length l) (coefs ρ l) ≡ psum ρ n (coefs ρ l)
      go (yes u) = let e : length l ≡ N.◌+◌ (N.◌-◌ (length l) n) n = omega arith in ap (λ m. psum ρ m (coefs ρ l)) e ∙ psum_cut n (N.◌-◌ (length l) n) (coefs ρ l) none
      go (no u) = let e : n ≡ N.◌+◌ (N.◌-◌ n (length l)) (length l) = omega arith in sym (ap (λ m. psum ρ m (coefs ρ l)) e ∙ psum_cut (length l) (N.◌-◌ n (length l)) (coefs ρ l) past)

  pub row_cut : (l : List ℕ) (n : ℕ) → Size l n → row ρ l ≡ psum ρ n (coefs ρ l)
  row_cut l n s = row_upto l n s.above

  -- the polynomial of a row, by its 32 terms
  pub row_32 : (l : List ℕ) → length l ≡ 32 → row ρ l ≡ psum ρ 32 (coefs ρ l)
  unfolding row
  row_32 l e = ap (λ n. psum ρ n (coefs ρ l)) e

  pub row_tab : (n : ℕ) (f : ℕ → ℕ) → row ρ (tab n f) ≡ psum ρ n (λ i. cast (f i))
  unfolding row
  row_tab n f = ap (λ m. psum ρ m (coefs ρ (tab n f))) (length_tab n f) ∙ psum_ext n (coefs ρ (tab n f)) (λ i. cast (f i)) (λ i l. ap cast (at_tab n f i l))

  pub size_lt : {l : List ℕ} {n : ℕ} → Size l n → Lt 𝓥 (row ρ l) n
  size_lt {l} {n} s = lead_eq 𝓥 (psum_lt n (coefs ρ l)) (sym (row_cut l n s)) refl

  pub size_lead : {l : List ℕ} {d : ℕ} → Size l (suc d) → Lead (row ρ l) d 0 (cast (get_or l d 0))
  size_lead {l} {d} s = lead_eq 𝓥 (psum_lead d (coefs ρ l)) (sym (row_cut l (suc d) s)) refl

  pub size_top : {l : List ℕ} {d : ℕ} → Row p l → Size l (suc d) → cast (get_or l d 0) ≢ 0ᵏ
  size_top {l} {d} h s e = s.top (omega arith) (let z : N.◌-◌ (suc d) 1 ≡ d = omega arith in ap (λ m. get_or l m 0) z ∙ ρ.cast_small (get_or l d 0) (h.each d) e)

  pub size_has : {l : List ℕ} {d : ℕ} → Row p l → Size l (suc d) → Has 𝓥 (row ρ l) d
  size_has {l} {d} h s = (cast (get_or l d 0), size_top h s, size_lead s)

  -- the same at a trimmed length that is not 0
  pub size_lead_at : {l : List ℕ} (n : ℕ) → Size l n → 0 < n → Lead (row ρ l) (N.◌-◌ n 1) 0 (cast (get_or l (N.◌-◌ n 1) 0))
  size_lead_at zero s u = absurd (omega arith)
  size_lead_at {l} (suc d) s u = subst (λ j. Lead (row ρ l) j 0 (cast (get_or l j 0))) (let e : d ≡ N.◌-◌ (suc d) 1 = omega arith in e) (size_lead s)

  pub size_has_at : {l : List ℕ} (n : ℕ) → Row p l → Size l n → 0 < n → Has 𝓥 (row ρ l) (N.◌-◌ n 1)
  size_has_at zero h s u = absurd (omega arith)
  size_has_at {l} (suc d) h s u = subst (λ j. Has 𝓥 (row ρ l) j) (let e : d ≡ N.◌-◌ (suc d) 1 = omega arith in e) (size_has h s)

  -- a bound of the degree bounds the trimmed length
  pub size_le : {l : List ℕ} {n : ℕ} (b : ℕ) → Row p l → Size l n → Lt 𝓥 (row ρ l) b → n ≤ b
  size_le {l} {n} b h s g = go n s
    where
      go : (n : ℕ) → Size l n → n ≤ b
      go zero z = omega arith
      go (suc d) z = above 𝓥 (size_has h z) g

  -- ---- the leaves
  -- t^k y, by any number of terms that reaches past it
  pub shift_law : (n k m : ℕ) (y : List ℕ) → ((i : ℕ) → m ≤ i → get_or y i 0 ≡ 0) → N.◌+◌ m k ≤ n → psum ρ n (λ i. cast (shift_at y k i)) ≡ tpow ρ k * row ρ y
  shift_law n k m y h l =
      let e : n ≡ N.◌+◌ (N.◌-◌ n k) k = omega arith in
      ap (λ j. psum ρ j (λ i. cast (shift_at y k i))) e
      ∙ psum_shift k (N.◌-◌ n k) (coefs ρ y) (λ i. cast (shift_at y k i)) (λ i h. ap cast (shift_low y k i h) ∙ ρ.cast_zero)
      (λ i. ap cast (shift_high y k (N.◌+◌ i k) (omega arith) ∙ ap (λ j. get_or y j 0) (let w : N.◌-◌ (N.◌+◌ i k) k ≡ i = omega arith in w)))
      ∙ ap (λ z. tpow ρ k * z) (sym (row_upto y (N.◌-◌ n k) (λ i u. h i (omega arith))))

  -- s x − c t^k y, where nothing of t^k y is past the row
  pub cross_law : (s : ℕ) (x : List ℕ) (c k : ℕ) (y : List ℕ) (m : ℕ) → c ≤ p → length x ≡ 32 → Size y m → N.◌+◌ m k ≤ 32
      → row ρ (tab 32 (cross_at p s x c k y)) ≡ const (cast s) * row ρ x + - (const (cast c) * (tpow ρ k * row ρ y))
  cross_law s x c k y m small sx sy l =
      row_tab 32 (cross_at p s x c k y)
      ∙ psum_ext 32 (λ i. cast (cross_at p s x c k y i)) (λ i. cast s *ᵏ coefs ρ x i +ᵏ -ᵏ (cast c *ᵏ cast (shift_at y k i))) (λ i h. at i)
      ∙ psum_cross 32 (cast s) (cast c) (coefs ρ x) (λ i. cast (shift_at y k i))
      ∙ ap₂ (λ w z. const (cast s) * w + - (const (cast c) * z)) (sym (row_32 x sx)) (shift_law 32 k m y sy.above l)
    where
      at : (i : ℕ) → cast (cross_at p s x c k y i) ≡ cast s *ᵏ coefs ρ x i +ᵏ -ᵏ (cast c *ᵏ cast (shift_at y k i))
      at i =
          ρ.cast_mod (N.◌+◌ (N.◌*◌ s (get_or x i 0)) (N.◌*◌ (N.◌-◌ p c) (shift_at y k i)))
          ∙ ρ.cast_add (N.◌*◌ s (get_or x i 0)) (N.◌*◌ (N.◌-◌ p c) (shift_at y k i))
          ∙ ap₂ ◌+ᵏ◌ (ρ.cast_mul s (get_or x i 0)) (ρ.cast_mul (N.◌-◌ p c) (shift_at y k i) ∙ ap (λ z. z *ᵏ cast (shift_at y k i)) (cast_sub c small) ∙ r.neg_mul K (cast c) (cast (shift_at y k i)))

  -- a row whose coefficients are a x + b y, place by place
  pub place_law : (f : ℕ → ℕ) (a b : K.El) (x y : List ℕ) → length x ≡ 32 → length y ≡ 32 → ((i : ℕ) → cast (f i) ≡ a *ᵏ coefs ρ x i +ᵏ b *ᵏ coefs ρ y i)
      → row ρ (tab 32 f) ≡ const a * row ρ x + const b * row ρ y
  place_law f a b x y sx sy h =
      row_tab 32 f
      ∙ psum_ext 32 (λ i. cast (f i)) (λ i. a *ᵏ coefs ρ x i +ᵏ -ᵏ (-ᵏ b *ᵏ coefs ρ y i)) (λ i l. h i ∙ solve K (var 0 :+ var 1 :* var 2) (var 0 :+ minus (minus (var 1) :* var 2)) tt (a *ᵏ coefs ρ x i ∷ b ∷ coefs ρ y i ∷ []))
      ∙ psum_cross 32 a (-ᵏ b) (coefs ρ x) (coefs ρ y)
      ∙ ap (λ z. const a * psum ρ 32 (coefs ρ x) + - (z * psum ρ 32 (coefs ρ y))) (const_neg b)
      ∙ ap₂ (λ u v. const a * u + - (- const b * v)) (sym (row_32 x sx)) (sym (row_32 y sy))
      ∙ solve L (var 0 :+ minus (minus (var 1) :* var 2)) (var 0 :+ var 1 :* var 2) tt (const a * row ρ x ∷ const b ∷ row ρ y ∷ [])

  pub add_law : (x y : List ℕ) → length x ≡ 32 → length y ≡ 32 → row ρ (tab 32 (λ i. N.◌+◌ (get_or x i 0) (get_or y i 0) % p)) ≡ row ρ x + row ρ y
  add_law x y sx sy =
      place_law (λ i. N.◌+◌ (get_or x i 0) (get_or y i 0) % p) 1ᵏ 1ᵏ x y sx sy
      (λ i. ρ.cast_mod (N.◌+◌ (get_or x i 0) (get_or y i 0)) ∙ ρ.cast_add (get_or x i 0) (get_or y i 0) ∙ solve K (var 0 :+ var 1) (one :* var 0 :+ one :* var 1) tt (coefs ρ x i ∷ coefs ρ y i ∷ []))
      ∙ ap (λ a. a * row ρ x + a * row ρ y) ρ.const_one
      ∙ solve L (one :* var 0 :+ one :* var 1) (var 0 :+ var 1) tt (row ρ x ∷ row ρ y ∷ [])

  pub sub_law : (x y : List ℕ) → length x ≡ 32 → Row p y → row ρ (tab 32 (λ i. N.◌+◌ (get_or x i 0) (N.◌-◌ p (get_or y i 0)) % p)) ≡ row ρ x + - row ρ y
  sub_law x y sx hy =
      place_law (λ i. N.◌+◌ (get_or x i 0) (N.◌-◌ p (get_or y i 0)) % p) 1ᵏ (-ᵏ 1ᵏ) x y sx hy.size
      (λ i. let l : get_or y i 0 < p = hy.each i in
      ρ.cast_mod (N.◌+◌ (get_or x i 0) (N.◌-◌ p (get_or y i 0))) ∙ ρ.cast_add (get_or x i 0) (N.◌-◌ p (get_or y i 0)) ∙ ap (λ z. coefs ρ x i +ᵏ z) (cast_sub (get_or y i 0) (omega arith))
      ∙ solve K (var 0 :+ minus (var 1)) (one :* var 0 :+ minus one :* var 1) tt (coefs ρ x i ∷ coefs ρ y i ∷ []))
      ∙ ap₂ (λ a b. a * row ρ x + b * row ρ y) ρ.const_one (const_neg 1ᵏ ∙ ap (λ a. - a) ρ.const_one)
      ∙ solve L (one :* var 0 :+ minus one :* var 1) (var 0 :+ minus (var 1)) tt (row ρ x ∷ row ρ y ∷ [])

  pub scale_law : (c : ℕ) (x : List ℕ) → length x ≡ 32 → row ρ (tab 32 (λ i. N.◌*◌ c (get_or x i 0) % p)) ≡ const (cast c) * row ρ x
  scale_law c x sx =
      place_law (λ i. N.◌*◌ c (get_or x i 0) % p) (cast c) 0ᵏ x x sx sx
      (λ i. ρ.cast_mod (N.◌*◌ c (get_or x i 0)) ∙ ρ.cast_mul c (get_or x i 0) ∙ solve K (var 0) (var 0 :+ zer :* var 1) tt (cast c *ᵏ coefs ρ x i ∷ coefs ρ x i ∷ []))
      ∙ ap (λ a. const (cast c) * row ρ x + a * row ρ x) const_zero
      ∙ solve L (var 0 :+ zer :* var 1) (var 0) tt (const (cast c) * row ρ x ∷ row ρ x ∷ [])

  -- f + c g
  pub psum_plus : (n : ℕ) (c : K.El) (f g : ℕ → K.El) → psum ρ n (λ i. f i +ᵏ c *ᵏ g i) ≡ psum ρ n f + const c * psum ρ n g
  unfolding psum
  psum_plus zero c f g = solve L zer (zer :+ var 0 :* zer) tt (const c ∷ [])
  psum_plus (suc n) c f g =
      ap₂ (λ x y. x + y * tpow ρ n) (psum_plus n c f g) (ρ.const_add (f n) (c *ᵏ g n) ∙ ap (λ x. const (f n) + x) (ρ.const_mul c (g n)))
      ∙ solve L (var 1 :+ var 0 :* var 2 :+ (var 3 :+ var 0 :* var 4) :* var 5) (var 1 :+ var 3 :* var 5 :+ var 0 :* (var 2 :+ var 4 :* var 5)) tt
      (const c ∷ psum ρ n f ∷ psum ρ n g ∷ const (f n) ∷ const (g n) ∷ tpow ρ n ∷ [])
