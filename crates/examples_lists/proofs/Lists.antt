-- The operations on lists are those of the polynomials, in any reading.
--   row_cons                      a + t·x
--   row_plus, row_scale, row_times, row_minus   sum, multiple, product, negative
--   row_slope                     the derivative
--   nought_sound, alike_sound     the tests
--   ends_sound, lead_list, lt_list, has_list   zeros from a place on; degree and leading coefficient
use mathlib.Core.Path.{◌≡◌, refl, sym, ap, ap₂, ◌∙◌, subst}
use mathlib.Core.Logic.{◌≢◌}
use mathlib.Core.Bool.{not}
use mathlib.Core.List.{List, [], ◌∷◌}
use Prim.Native.Nat.{ℕ, zero, suc, ◌≤◌, ◌<◌, ◌%◌}
use Prim.Native.Nat as N
use native.Mathlib.Nat.{mod-lt}
use native.Mathlib.Omega.{arith}
use lib.Dec.{T, eqb, eqb→eq, eqb_refl, T_not}
use lib.ListN.{length, get_or}
use Rattle.math_ring.proofs.Laws as r
use Rattle.math_ring.proofs.Solve.{var, one, zer, minus as minusE, ◌:+◌, ◌:*◌, solve}
use Rattle.math_fp.proofs.Trial.{and_l, and_r}
use Rattle.math_valued.specs.Degree.{Has, Lt}
use Rattle.math_valued.proofs.Degree.{lead_eq, lt_eq}
use Rattle.math_rows.specs.Reading.{Reading}
use Rattle.math_rows.specs.Derivation.{Derivation}
use Rattle.math_rows.specs.Row.{tpow, psum, coefs, row}
use Rattle.math_rows.proofs.Rows.{const_zero, const_neg, cast_sub, psum_lt, psum_lead, row_upto}
use Rattle.examples_lists.specs.Lists.{plus, scale, times, minus, slope, nought, alike, ends}

-- ---- zeros from a place on
pub ends_sound : (l : List ℕ) (n : ℕ) → T (ends l n) → (i : ℕ) → n ≤ i → get_or l i 0 ≡ 0
ends_sound [] n t i h = refl
ends_sound (a ∷ x) zero t zero h = eqb→eq a 0 (and_l (eqb a 0) (ends x zero) t)
ends_sound (a ∷ x) zero t (suc i) h = ends_sound x zero (and_r (eqb a 0) (ends x zero) t) i (omega arith)
ends_sound (a ∷ x) (suc n) t zero h = absurd (omega arith)
ends_sound (a ∷ x) (suc n) t (suc i) h = ends_sound x n t i (omega arith)

module _ {p : ℕ} (ρ : Reading p) where
  open ρ use {𝓥, cast}
  open 𝓥 use {K, L, Lead, const, t}
  open K.ops use {add as ◌+ᵏ◌, mul as ◌*ᵏ◌, neg as -ᵏ◌, 𝟎 as 0ᵏ, 𝟏 as 1ᵏ}
  open L.ops use {add as ◌+◌, mul as ◌*◌, neg as -◌, 𝟎, 𝟏}

  infixl 60 ◌+◌ ◌+ᵏ◌
  infixl 70 ◌*◌ ◌*ᵏ◌
  infix 80 -◌ -ᵏ◌
  -- ---- a list from its lowest coefficient
  psum_low : (n : ℕ) (f : ℕ → K.El) → psum ρ (suc n) f ≡ const (f 0) + t * psum ρ n (λ i. f (suc i))
  unfolding psum tpow
  psum_low zero f = solve L (zer :+ var 0 :* one) (var 0 :+ var 1 :* zer) tt (const (f 0) ∷ t ∷ [])
  psum_low (suc n) f =
      ap (λ x. x + const (f (suc n)) * (t * tpow ρ n)) (psum_low n f)
      ∙ solve L (var 0 :+ var 1 :* var 2 :+ var 3 :* (var 1 :* var 4)) (var 0 :+ var 1 :* (var 2 :+ var 3 :* var 4)) tt
      (const (f 0) ∷ t ∷ psum ρ n (λ i. f (suc i)) ∷ const (f (suc n)) ∷ tpow ρ n ∷ [])

  pub row_nil : row ρ [] ≡ 𝟎
  unfolding row psum
  row_nil = refl

  pub row_cons : (a : ℕ) (x : List ℕ) → row ρ (a ∷ x) ≡ const (cast a) + t * row ρ x
  unfolding row
  row_cons a x = psum_low (length x) (coefs ρ (a ∷ x))

  zero_const : const (cast 0) ≡ 𝟎
  zero_const = ap const ρ.cast_zero ∙ const_zero ρ

  row_zero : (x : List ℕ) → row ρ (0 ∷ x) ≡ t * row ρ x
  row_zero x = row_cons 0 x ∙ ap (λ c. c + t * row ρ x) zero_const ∙ r.zero_add' L (t * row ρ x)

  pub row_one : row ρ (1 ∷ []) ≡ 𝟏
  row_one = row_cons 1 [] ∙ ap₂ (λ c x. c + t * x) (ap const ρ.cast_one ∙ ρ.const_one) row_nil ∙ solve L (one :+ var 0 :* zer) one tt (t ∷ [])

  -- ---- the operations
  pub row_plus : (x y : List ℕ) → row ρ (plus p x y) ≡ row ρ x + row ρ y
  row_plus [] y = sym (ap (λ z. z + row ρ y) row_nil ∙ r.zero_add' L (row ρ y))
  row_plus (a ∷ x) [] = sym (ap (λ z. row ρ (a ∷ x) + z) row_nil ∙ L.laws.add-zero (row ρ (a ∷ x)))
  row_plus (a ∷ x) (b ∷ y) =
      row_cons (N.◌+◌ a b % p) (plus p x y)
      ∙ ap₂ (λ c z. c + t * z) (ap const (ρ.cast_mod (N.◌+◌ a b) ∙ ρ.cast_add a b) ∙ ρ.const_add (cast a) (cast b)) (row_plus x y)
      ∙ solve L (var 0 :+ var 1 :+ var 2 :* (var 3 :+ var 4)) (var 0 :+ var 2 :* var 3 :+ (var 1 :+ var 2 :* var 4)) tt (const (cast a) ∷ const (cast b) ∷ t ∷ row ρ x ∷ row ρ y ∷ [])
      ∙ ap₂ ◌+◌ (sym (row_cons a x)) (sym (row_cons b y))

  pub row_scale : (c : ℕ) (x : List ℕ) → row ρ (scale p c x) ≡ const (cast c) * row ρ x
  row_scale c [] = row_nil ∙ sym (ap (λ z. const (cast c) * z) row_nil ∙ r.mul-zero L (const (cast c)))
  row_scale c (a ∷ x) =
      row_cons (N.◌*◌ c a % p) (scale p c x)
      ∙ ap₂ (λ d z. d + t * z) (ap const (ρ.cast_mod (N.◌*◌ c a) ∙ ρ.cast_mul c a) ∙ ρ.const_mul (cast c) (cast a)) (row_scale c x)
      ∙ solve L (var 0 :* var 1 :+ var 2 :* (var 0 :* var 3)) (var 0 :* (var 1 :+ var 2 :* var 3)) tt (const (cast c) ∷ const (cast a) ∷ t ∷ row ρ x ∷ [])
      ∙ ap (λ z. const (cast c) * z) (sym (row_cons a x))

  pub row_times : (x y : List ℕ) → row ρ (times p x y) ≡ row ρ x * row ρ y
  row_times [] y = row_nil ∙ sym (ap (λ z. z * row ρ y) row_nil ∙ r.zero_mul' L (row ρ y))
  row_times (a ∷ x) y =
      row_plus (scale p a y) (0 ∷ times p x y)
      ∙ ap₂ ◌+◌ (row_scale a y) (row_zero (times p x y) ∙ ap (λ z. t * z) (row_times x y))
      ∙ solve L (var 0 :* var 1 :+ var 2 :* (var 3 :* var 1)) ((var 0 :+ var 2 :* var 3) :* var 1) tt (const (cast a) ∷ row ρ y ∷ t ∷ row ρ x ∷ [])
      ∙ ap (λ z. z * row ρ y) (sym (row_cons a x))

  pub row_minus : (x : List ℕ) → row ρ (minus p x) ≡ - row ρ x
  row_minus [] = row_nil ∙ sym (ap (λ z. - z) row_nil ∙ r.neg_zero L)
  row_minus (a ∷ x) =
      row_cons (N.◌-◌ p (a % p) % p) (minus p x)
      ∙ ap₂ (λ c z. c + t * z) (ap const (ρ.cast_mod (N.◌-◌ p (a % p)) ∙ gone) ∙ const_neg') (row_minus x)
      ∙ solve L (minusE (var 0) :+ var 1 :* minusE (var 2)) (minusE (var 0 :+ var 1 :* var 2)) tt (const (cast a) ∷ t ∷ row ρ x ∷ [])
      ∙ ap (λ z. - z) (sym (row_cons a x))
    where
      gone : cast (N.◌-◌ p (a % p)) ≡ -ᵏ cast a
      gone = let l : a % p < p = mod-lt a ρ.pos in cast_sub ρ (a % p) (omega arith) ∙ ap (λ z. -ᵏ z) (ρ.cast_mod a)

      const_neg' : const (-ᵏ cast a) ≡ - const (cast a)
      const_neg' = const_neg ρ (cast a)

  -- ---- the tests
  nought_cast : (a : ℕ) → T (eqb (a % p) 0) → cast a ≡ 0ᵏ
  nought_cast a z = sym (ρ.cast_mod a) ∙ ap cast (eqb→eq (a % p) 0 z) ∙ ρ.cast_zero

  pub nought_sound : (x : List ℕ) → T (nought p x) → row ρ x ≡ 𝟎
  nought_sound [] z = row_nil
  nought_sound (a ∷ x) z =
      row_cons a x
      ∙ ap₂ (λ c y. c + t * y) (ap const (nought_cast a (and_l (eqb (a % p) 0) (nought p x) z)) ∙ const_zero ρ) (nought_sound x (and_r (eqb (a % p) 0) (nought p x) z))
      ∙ solve L (zer :+ var 0 :* zer) zer tt (t ∷ [])

  pub alike_sound : (x y : List ℕ) → T (alike p x y) → row ρ x ≡ row ρ y
  alike_sound x y z = r.eq_of_sub L (row ρ x) (row ρ y) (ap (λ w. row ρ x + w) (sym (row_minus y)) ∙ sym (row_plus x (minus p y)) ∙ nought_sound (plus p x (minus p y)) z)

  -- ---- degrees
  pub lead_list : (l : List ℕ) (d : ℕ) → T (ends l (suc d)) → Lead (row ρ l) d 0 (cast (get_or l d 0))
  lead_list l d z = lead_eq 𝓥 (psum_lead ρ d (coefs ρ l)) (sym (row_upto ρ l (suc d) (ends_sound l (suc d) z))) refl

  pub lt_list : (l : List ℕ) (n : ℕ) → T (ends l n) → Lt 𝓥 (row ρ l) n
  lt_list l n z = lt_eq 𝓥 (psum_lt ρ n (coefs ρ l)) (sym (row_upto ρ l n (ends_sound l n z)))

  pub cast_some : (a : ℕ) → T (not (eqb (a % p) 0)) → cast a ≢ 0ᵏ
  cast_some a z e = T_not (eqb (a % p) 0) z (subst (λ n. T (eqb n 0)) (sym (ρ.cast_small (a % p) (mod-lt a ρ.pos) (ρ.cast_mod a ∙ e))) (eqb_refl 0))

  pub has_list : (l : List ℕ) (d : ℕ) → T (ends l (suc d)) → T (not (eqb (get_or l d 0 % p) 0)) → Has 𝓥 (row ρ l) d
  has_list l d z n = (cast (get_or l d 0), cast_some (get_or l d 0) n, lead_list l d z)

  -- ---- the derivative
  module _ (δ : Derivation ρ) where
    D_zero : δ.D 𝟎 ≡ 𝟎
    D_zero = ap δ.D (sym (const_zero ρ)) ∙ δ.D_const 0ᵏ

    pub row_slope : (x : List ℕ) → row ρ (slope p x) ≡ δ.D (row ρ x)
    row_slope [] = row_nil ∙ sym (ap δ.D row_nil ∙ D_zero)
    row_slope (a ∷ x) =
        row_plus x (0 ∷ slope p x)
        ∙ ap (λ z. row ρ x + z) (row_zero (slope p x) ∙ ap (λ z. t * z) (row_slope x))
        ∙ solve L (var 0 :+ var 1 :* var 2) (zer :+ (one :* var 0 :+ var 1 :* var 2)) tt (row ρ x ∷ t ∷ δ.D (row ρ x) ∷ [])
        ∙ ap₂ (λ u v. u + (v * row ρ x + t * δ.D (row ρ x))) (sym (δ.D_const (cast a))) (sym δ.D_t)
        ∙ ap (λ z. δ.D (const (cast a)) + z) (sym (δ.D_mul t (row ρ x)))
        ∙ sym (δ.D_add (const (cast a)) (t * row ρ x))
        ∙ ap δ.D (sym (row_cons a x))
