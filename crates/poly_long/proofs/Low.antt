-- The low coefficients of a polynomial.
--   low_unique   a polynomial of degree below n is its n low coefficients
--   low_mix      of g x + h y only the low coefficients of x and y are asked for
--   mix_law      the sums of terms are the low coefficients of g x + h y; scale_law: of s d
--   whole_law    where there is room, all of g x + h y; times_law: of x y
--   alone        x y + 0 0
use mathlib.Core.Path.{◌≡◌, refl, sym, ap, ap₂, ◌∙◌, subst}
use mathlib.Core.List.{List, [], ◌∷◌}
use Prim.Native.Nat.{ℕ, zero, suc, ◌<◌, ◌≤◌, ◌%◌}
use Prim.Native.Nat as N
use native.Mathlib.Nat.{mod-lt}
use native.Mathlib.Omega.{arith}
use native.Mathlib.Decide.{dec_lt}
use lib.ListN.{length, get_or, get_or-eq_default}
use Rattle.math_ring.proofs.Laws as r
use Rattle.math_ring.proofs.Solve.{var, one, zer, minus, ◌:+◌, ◌:*◌, solve}
use Rattle.math_valued.specs.Degree.{Lt}
use Rattle.math_valued.proofs.Degree.{lt_eq, lt_add, lt_neg, lt_mul, lt_up, lt_cancel}
use Rattle.math_rows.specs.Reading.{Reading}
use Rattle.math_rows.specs.Made.{reading}
use Rattle.math_rows.specs.Row.{tab, tpow, psum, coefs, row}
use Rattle.math_rows.specs.Sum.{sum_to, term_at}
use Rattle.math_rows.proofs.Tab.{Filled, filled_end, length_tab, at_tab, past_tab}
use Rattle.math_rows.proofs.Rows.{psum_ext, psum_scale, psum_plus, psum_poly, psum_lt, tpow_add, tpow_lead, row_tab, row_upto}
use Rattle.math_rows.proofs.Product.{product_law}
use Rattle.poly_long.specs.Long.{Low, ScaleAsks, Scaled}

module _ {p : ℕ} (ρ : Reading p) where
  open ρ use {𝓥, cast}
  open 𝓥 use {K, L, Lead, const, t, IsPoly}
  open K.ops use {add as ◌+ᵏ◌, mul as ◌*ᵏ◌, neg as -ᵏ◌, 𝟎 as 0ᵏ, 𝟏 as 1ᵏ}
  open L.ops use {add as ◌+◌, mul as ◌*◌, neg as -◌, 𝟎, 𝟏}

  infixl 60 ◌+◌ ◌+ᵏ◌
  infixl 70 ◌*◌ ◌*ᵏ◌
  infix 80 -◌ -ᵏ◌
  -- the first n terms apart
  pub psum_split : (m n : ℕ) (f : ℕ → K.El) → psum ρ (N.◌+◌ m n) f ≡ psum ρ n f + tpow ρ n * psum ρ m (λ i. f (N.◌+◌ i n))
  unfolding psum
  psum_split zero n f = ap (λ k. psum ρ k f) (let e : N.◌+◌ 0 n ≡ n = omega arith in e) ∙ solve L (var 0) (var 0 :+ var 1 :* zer) tt (psum ρ n f ∷ tpow ρ n ∷ [])
  psum_split (suc m) n f =
      ap (λ k. psum ρ k f) (let e : N.◌+◌ (suc m) n ≡ suc (N.◌+◌ m n) = omega arith in e)
      ∙ ap₂ (λ a b. a + const (f (N.◌+◌ m n)) * b) (psum_split m n f) (tpow_add ρ m n)
      ∙ solve L (var 0 :+ var 1 :* var 2 :+ var 3 :* (var 4 :* var 1)) (var 0 :+ var 1 :* (var 2 :+ var 3 :* var 4)) tt
      (psum ρ n f ∷ tpow ρ n ∷ psum ρ m (λ i. f (N.◌+◌ i n)) ∷ const (f (N.◌+◌ m n)) ∷ tpow ρ m ∷ [])

  pub row_lt : (l : List ℕ) → Lt 𝓥 (row ρ l) (length l)
  unfolding row
  row_lt l = psum_lt ρ (length l) (coefs ρ l)

  pub low_unique : {n : ℕ} {z : L.El} {l : List ℕ} → Low ρ n z l → Lt 𝓥 z n → row ρ l ≡ z
  low_unique {n} {z} {l} h b =
      let e : L.El = h.rest in
      let q : Lt 𝓥 (tpow ρ n * e) n = lt_eq 𝓥 (lt_add 𝓥 b (lt_neg 𝓥 (lt_up 𝓥 n (row_lt l) (let s : length l ≡ n = h.size in omega arith))))
      (ap (λ a. a + - row ρ l) h.law ∙ solve L (var 0 :+ var 1 :+ minus (var 0)) (var 1) tt (row ρ l ∷ tpow ρ n * e ∷ [])) in
      let none : e ≡ 𝟎 = 𝓥.poly_small e h.is_poly (lt_cancel 𝓥 0 (1ᵏ, 𝓥.one≢zero, tpow_lead ρ n) (lt_up 𝓥 (N.◌+◌ n 0) q (omega arith))) in
      sym (h.law ∙ ap (λ a. row ρ l + tpow ρ n * a) none ∙ solve L (var 0 :+ var 1 :* zer) (var 0) tt (row ρ l ∷ tpow ρ n ∷ []))

  pub low_mix : {n : ℕ} {x y : L.El} {a b d : List ℕ} (g h : L.El) → IsPoly g → IsPoly h → Low ρ n x a → Low ρ n y b → Low ρ n (g * row ρ a + h * row ρ b) d → Low ρ n (g * x + h * y) d
  low_mix {n} {x} {y} {a} {b} {d} g h hg hh u v w = record {
    size = w.size;
    rest = w.rest + (g * u.rest + h * v.rest);
    is_poly = 𝓥.closed.add _ _ w.is_poly (𝓥.closed.add _ _ (𝓥.closed.mul _ _ hg u.is_poly) (𝓥.closed.mul _ _ hh v.is_poly));
    law = ap₂ (λ s e. g * s + h * e) u.law v.law
        ∙ solve L (var 0 :* (var 2 :+ var 6 :* var 4) :+ var 1 :* (var 3 :+ var 6 :* var 5)) (var 0 :* var 2 :+ var 1 :* var 3 :+ var 6 :* (var 0 :* var 4 :+ var 1 :* var 5)) tt (g ∷ h ∷ row ρ a ∷ row ρ b ∷ u.rest ∷ v.rest ∷ tpow ρ n ∷ [])
        ∙ ap (λ s. s + tpow ρ n * (g * u.rest + h * v.rest)) w.law
        ∙ solve L (var 0 :+ var 1 :* var 2 :+ var 1 :* var 3) (var 0 :+ var 1 :* (var 2 :+ var 3)) tt (row ρ d ∷ tpow ρ n ∷ w.rest ∷ (g * u.rest + h * v.rest) ∷ []);
  }

  -- the first terms of a sum are its low coefficients
  pub psum_low : (m n : ℕ) (f : ℕ → ℕ) → Low ρ n (psum ρ (N.◌+◌ m n) (λ k. cast (f k))) (tab n (λ k. f k % p))
  psum_low m n f = record {
    size = length_tab n (λ k. f k % p);
    rest = psum ρ m (λ i. cast (f (N.◌+◌ i n)));
    is_poly = psum_poly ρ m (λ i. cast (f (N.◌+◌ i n)));
    law = psum_split m n (λ k. cast (f k))
        ∙ ap (λ a. a + tpow ρ n * psum ρ m (λ i. cast (f (N.◌+◌ i n)))) (psum_ext ρ n (λ k. cast (f k)) (λ k. cast (f k % p)) (λ k u. sym (ρ.cast_mod (f k))) ∙ sym (row_tab ρ n (λ k. f k % p)));
  }

  pub product_whole : (j : ℕ) (x y : List ℕ) → N.◌+◌ (length x) (length y) ≤ j → psum ρ j (λ k. cast (sum_to (term_at x y k) (length x))) ≡ row ρ x * row ρ y
  unfolding row
  product_whole j x y l = product_law ρ j (length x) (length y) x y (λ i u. get_or-eq_default y 0 {n = i} u) (omega arith)

  psum_sum : (n : ℕ) (f g : ℕ → ℕ) → psum ρ n (λ k. cast (N.◌+◌ (f k) (g k))) ≡ psum ρ n (λ k. cast (f k)) + psum ρ n (λ k. cast (g k))
  psum_sum n f g =
      psum_ext ρ n (λ k. cast (N.◌+◌ (f k) (g k))) (λ k. cast (f k) +ᵏ 1ᵏ *ᵏ cast (g k)) (λ k u. ρ.cast_add (f k) (g k) ∙ ap (λ a. cast (f k) +ᵏ a) (sym (r.one-mul K (cast (g k)))))
      ∙ psum_plus ρ n 1ᵏ (λ k. cast (f k)) (λ k. cast (g k))
      ∙ ap (λ a. psum ρ n (λ k. cast (f k)) + a * psum ρ n (λ k. cast (g k))) ρ.const_one
      ∙ solve L (var 0 :+ one :* var 1) (var 0 :+ var 1) tt (psum ρ n (λ k. cast (f k)) ∷ psum ρ n (λ k. cast (g k)) ∷ [])

  -- coefficient by coefficient, as far as one likes
  pub sum₂ : (j : ℕ) (g x h y : List ℕ) → N.◌+◌ (length g) (length x) ≤ j → N.◌+◌ (length h) (length y) ≤ j
      → psum ρ j (λ k. cast (N.◌+◌ (sum_to (term_at g x k) (length g)) (sum_to (term_at h y k) (length h)))) ≡ row ρ g * row ρ x + row ρ h * row ρ y
  sum₂ j g x h y l m = psum_sum j (λ k. sum_to (term_at g x k) (length g)) (λ k. sum_to (term_at h y k) (length h)) ∙ ap₂ ◌+◌ (product_whole j g x l) (product_whole j h y m)

  pub sum₃ : (j : ℕ) (a x b y c z : List ℕ) → N.◌+◌ (length a) (length x) ≤ j → N.◌+◌ (length b) (length y) ≤ j → N.◌+◌ (length c) (length z) ≤ j
      → psum ρ j (λ k. cast (N.◌+◌ (N.◌+◌ (sum_to (term_at a x k) (length a)) (sum_to (term_at b y k) (length b))) (sum_to (term_at c z k) (length c))))
      ≡ row ρ a * row ρ x + row ρ b * row ρ y + row ρ c * row ρ z
  sum₃ j a x b y c z l m o =
      psum_sum j (λ k. N.◌+◌ (sum_to (term_at a x k) (length a)) (sum_to (term_at b y k) (length b))) (λ k. sum_to (term_at c z k) (length c))
      ∙ ap₂ ◌+◌ (sum₂ j a x b y l m) (product_whole j c z o)

  pub mix_law : (n : ℕ) (g x h y : List ℕ)
      → Low ρ n (row ρ g * row ρ x + row ρ h * row ρ y) (tab n (λ k. N.◌+◌ (sum_to (term_at g x k) (length g)) (sum_to (term_at h y k) (length h)) % p))
  mix_law n g x h y =
      let m : ℕ = N.◌+◌ (N.◌+◌ (length g) (length x)) (N.◌+◌ (length h) (length y)) in
      let f : ℕ → ℕ = (λ k. N.◌+◌ (sum_to (term_at g x k) (length g)) (sum_to (term_at h y k) (length h))) in
      let e : psum ρ (N.◌+◌ m n) (λ k. cast (f k)) ≡ row ρ g * row ρ x + row ρ h * row ρ y = sum₂ (N.◌+◌ m n) g x h y (omega arith) (omega arith) in
      let w = psum_low m n f in
      record { size = w.size; rest = w.rest; is_poly = w.is_poly; law = sym e ∙ w.law }

  none : row ρ (0 ∷ []) ≡ 𝟎
  unfolding psum
  none = row_upto ρ (0 ∷ []) 0 at
    where
      at : (i : ℕ) → 0 ≤ i → ◌≡◌ {A = ℕ} (get_or (0 ∷ []) i 0) 0
      at zero l = refl
      at (suc i) l = refl

  pub alone : (x y : L.El) → x * y + row ρ (0 ∷ []) * row ρ (0 ∷ []) ≡ x * y
  alone x y = ap (λ z. x * y + z * z) none ∙ solve L (var 0 :* var 1 :+ zer :* zer) (var 0 :* var 1) tt (x ∷ y ∷ [])

  product_lt : (n : ℕ) (x y : List ℕ) → N.◌+◌ (length x) (length y) ≤ n → Lt 𝓥 (row ρ x * row ρ y) n
  product_lt n x y l = lt_up 𝓥 n (lt_mul 𝓥 (row_lt x) (row_lt y)) l

  pub whole_law : {n : ℕ} (g x h y : List ℕ) {d : List ℕ} → N.◌+◌ (length g) (length x) ≤ n → N.◌+◌ (length h) (length y) ≤ n
      → Low ρ n (row ρ g * row ρ x + row ρ h * row ρ y) d → row ρ d ≡ row ρ g * row ρ x + row ρ h * row ρ y
  whole_law {n} g x h y a b w = low_unique w (lt_add 𝓥 (product_lt n g x a) (product_lt n h y b))

  pub times_law : {n : ℕ} (x y : List ℕ) {d : List ℕ} → N.◌+◌ (length x) (length y) ≤ n → Low ρ n (row ρ x * row ρ y + row ρ (0 ∷ []) * row ρ (0 ∷ [])) d → row ρ d ≡ row ρ x * row ρ y
  times_law {n} x y l w = let e = alone (row ρ x) (row ρ y) in low_unique w (lt_eq 𝓥 (product_lt n x y l) (sym e)) ∙ e

  pub scale_law : (s : ℕ) (d : List ℕ) → row ρ (tab (length d) (λ i. N.◌*◌ (get_or d i 0) s % p)) ≡ const (cast s) * row ρ d
  unfolding row
  scale_law s d =
      row_tab ρ (length d) (λ i. N.◌*◌ (get_or d i 0) s % p)
      ∙ psum_ext ρ (length d) (λ i. cast (N.◌*◌ (get_or d i 0) s % p)) (λ i. cast s *ᵏ coefs ρ d i)
      (λ i u. ρ.cast_mod (N.◌*◌ (get_or d i 0) s) ∙ ρ.cast_mul (get_or d i 0) s ∙ K.laws.mul_comm (cast (get_or d i 0)) (cast s))
      ∙ psum_scale ρ (length d) (cast s) (coefs ρ d)

-- what the loop of `scale` ends with
pub below : (p n : ℕ) (f : ℕ → ℕ) (d : List ℕ) → 0 < p → ((i : ℕ) → f i < p) → d ≡ tab n f → (i : ℕ) → get_or d i 0 < p
below p n f d pos h e i = subst (λ l. get_or l i 0 < p) (sym e) (elim (dec_lt i n) [
  | yes l ↦ subst (λ v. v < p) (sym (at_tab n f i l)) (h i)
  | no l ↦ subst (λ v. v < p) (sym (past_tab n f i (omega arith))) pos
])

pub scaled : (p s : ℕ) (d₀ d : List ℕ) (i : ℕ) → ScaleAsks p s → Filled (length d₀) (λ k. N.◌*◌ (get_or d₀ k 0) s % p) d i → length d₀ ≤ i → Scaled p s d₀ d
scaled p s d₀ d i g h l =
    let f : ℕ → ℕ = (λ k. N.◌*◌ (get_or d₀ k 0) s % p) in
    let e : d ≡ tab (length d₀) f = filled_end (length d₀) f d i h l in
    let pos : 0 < p = let b : 1 < p = g.modulus.prime.big in omega arith in record {
      size = h.size;
      at = λ k u. h.done k (omega arith);
      each = below p (length d₀) f d pos (λ k. mod-lt (N.◌*◌ (get_or d₀ k 0) s) pos) e;
      law = λ pr. ap (row (reading p pr)) e ∙ scale_law (reading p pr) s d₀;
    }
