-- Polynomials inside the Laurent series, over any commutative ring.
--   closed         they are a subring
--   poly_ext       the coefficients at 1, t, t², .. determine one
--   poly_small     one of degree below 0 is 0
--   floor_rest     what a series differs from its floor by has a degree below 0
--   floor_unique   the floor is the only such polynomial
use mathlib.Core.Path.{◌≡◌, refl, sym, ◌∙◌, ap, ap₂}
use mathlib.Core.HLevel.{Π_prop}
use Prim.Native.Nat.{ℕ, zero, suc, ◌+◌, ◌≤◌, ◌<◌, ◌-◌}
use native.Mathlib.Decide.{dec_le}
use native.Mathlib.Omega.{arith}
use Rattle.math_ring.specs.Ring.{CRing}
use Rattle.math_ring.specs.Power.{pow}
use Rattle.math_ring.specs.Subring.{Closed}
use Rattle.math_ring.proofs.Laws as r
use Rattle.math_laurent.specs.Series.{Ser, tail, cons, const_s, mul_s, keep}
use Rattle.math_laurent.specs.Laurent.{Lau, mk, lau_ind, lops, const, t}
use Rattle.math_laurent.specs.Degree.{coef, Lead}
use Rattle.math_laurent.specs.Polynomial.{IsPoly, floor}
use Rattle.math_laurent.proofs.Series.{keep_in, keep_out, mul_first, mul_next}
use Rattle.math_laurent.proofs.Laurent.{laurent, lau_ind2, mul_mk}
use Rattle.math_laurent.proofs.Coef.{coef_in, coef_out, coef_ext, coef_move, coef_add, coef_neg, coef_sub, coef_zero, coef_const_neg}

module _ (R : CRing) where
  open R.ops use {add as ◌+ᵏ◌, mul as ◌*ᵏ◌, neg as -ᵏ◌, 𝟎 as 0ᵏ, 𝟏 as 1ᵏ}
  open lops R use {add as ◌⊕◌, mul as ◌⊗◌, neg as ⊖◌, 𝟎, 𝟏}

  infixl 60 ◌⊕◌ ◌+ᵏ◌
  infixl 70 ◌⊗◌ ◌*ᵏ◌
  infix 80 ⊖◌ -ᵏ◌
  -- ---- a subring
  pub IsPoly-prop : (x : Lau R) → IsProp (IsPoly R x)
  IsPoly-prop x = Π_prop (λ j. R.laws.is_set _ _)

  pub const-IsPoly : (a : R.El) → IsPoly R (const R a)
  const-IsPoly a j = coef_const_neg R a j

  pub zero-IsPoly : IsPoly R 𝟎
  zero-IsPoly j = coef_zero R 0 (suc j)

  pub t-IsPoly : IsPoly R (t R)
  unfolding cons
  t-IsPoly j = coef_in R 0 (suc j) 1 (const_s R 1ᵏ) (suc (suc j)) (omega arith)

  pub add-IsPoly : (x y : Lau R) → IsPoly R x → IsPoly R y → IsPoly R (x ⊕ y)
  add-IsPoly x y h g j = coef_add R 0 (suc j) x y ∙ ap₂ ◌+ᵏ◌ (h j) (g j) ∙ R.laws.add-zero 0ᵏ

  pub neg-IsPoly : (x : Lau R) → IsPoly R x → IsPoly R (⊖ x)
  neg-IsPoly x h j = coef_neg R 0 (suc j) x ∙ ap (λ c. -ᵏ c) (h j) ∙ r.neg_zero R

  -- f ends at d and g at e: the product ends at d + e
  mul_out : (d e n : ℕ) (f g : Ser R) → ((i : ℕ) → d < i → f i ≡ 0ᵏ) → ((i : ℕ) → e < i → g i ≡ 0ᵏ) → d + e < n → mul_s R f g n ≡ 0ᵏ
  mul_out d e zero f g hf hg l = absurd (omega arith)
  mul_out zero e (suc n) f g hf hg l =
      mul_next R f g n ∙ ap₂ ◌+ᵏ◌ (ap (λ x. f 0 *ᵏ x) (hg (suc n) (omega arith)) ∙ r.mul-zero R (f 0)) (none n (tail f) (λ i. hf (suc i) (omega arith))) ∙ R.laws.add-zero 0ᵏ
    where
      none : (m : ℕ) (v : Ser R) → ((i : ℕ) → v i ≡ 0ᵏ) → mul_s R v g m ≡ 0ᵏ
      none zero v h = mul_first R v g ∙ ap (λ x. x *ᵏ g 0) (h 0) ∙ r.zero_mul' R (g 0)
      none (suc m) v h = mul_next R v g m ∙ ap₂ ◌+ᵏ◌ (ap (λ x. x *ᵏ g (suc m)) (h 0) ∙ r.zero_mul' R (g (suc m))) (none m (tail v) (λ i. h (suc i))) ∙ R.laws.add-zero 0ᵏ
  mul_out (suc d) e (suc n) f g hf hg l =
      mul_next R f g n ∙ ap₂ ◌+ᵏ◌ (ap (λ x. f 0 *ᵏ x) (hg (suc n) (omega arith)) ∙ r.mul-zero R (f 0)) (mul_out d e n (tail f) g (λ i h. hf (suc i) (omega arith)) hg (omega arith)) ∙ R.laws.add-zero 0ᵏ

  pub mul-IsPoly : (x y : Lau R) → IsPoly R x → IsPoly R y → IsPoly R (x ⊗ y)
  mul-IsPoly = lau_ind2 R (λ x y. IsPoly R x → IsPoly R y → IsPoly R (x ⊗ y)) (λ x y. Π_prop (λ h. Π_prop (λ g. IsPoly-prop (x ⊗ y)))) (λ d f g hf hg j.
      ap (coef R 0 (suc j)) (mul_mk R d f d g) ∙ coef_in R 0 (suc j) (d + d) (mul_s R f g) (d + d + suc j) (omega arith) ∙ mul_out d d (d + d + suc j) f g (ends d f hf) (ends d g hg) (omega arith))
    where
      ends : (d : ℕ) (f : Ser R) → IsPoly R (mk R d f) → (i : ℕ) → d < i → f i ≡ 0ᵏ
      ends d f h i l = sym (coef_in R 0 (suc (i - suc d)) d f i (omega arith)) ∙ h (i - suc d)

  pub closed : Closed (laurent R) (IsPoly R)
  closed = record { prop = IsPoly-prop; add = add-IsPoly; mul = mul-IsPoly; neg = neg-IsPoly; 𝟎 = zero-IsPoly; 𝟏 = const-IsPoly 1ᵏ }

  pub pow-IsPoly : (x : Lau R) (n : ℕ) → IsPoly R x → IsPoly R (pow (laurent R) x n)
  unfolding pow
  pow-IsPoly x zero h = const-IsPoly 1ᵏ
  pow-IsPoly x (suc n) h = mul-IsPoly x (pow (laurent R) x n) h (pow-IsPoly x n h)

  -- ---- what determines a polynomial
  pub poly_ext : (x y : Lau R) → IsPoly R x → IsPoly R y → ((i : ℕ) → coef R i 0 x ≡ coef R i 0 y) → x ≡ y
  poly_ext x y h g e = coef_ext R x y (λ i j. go i j (dec_le j i))
    where
      go : (i j : ℕ) → Dec (j ≤ i) → coef R i j x ≡ coef R i j y
      go i j (yes l) = coef_move R i j (i - j) 0 x (omega arith) ∙ e (i - j) ∙ coef_move R (i - j) 0 i j y (omega arith)
      go i j (no l) = coef_move R i j 0 (suc (j - suc i)) x (omega arith) ∙ h (j - suc i) ∙ sym (g (j - suc i)) ∙ coef_move R 0 (suc (j - suc i)) i j y (omega arith)

  pub poly_small : (x : Lau R) → IsPoly R x → Lead R x 0 0 0ᵏ → x ≡ 𝟎
  poly_small x h l = poly_ext x 𝟎 h zero-IsPoly (λ i. at i ∙ sym (coef_zero R i 0))
    where
      at : (i : ℕ) → coef R i 0 x ≡ 0ᵏ
      at zero = l.at
      at (suc i) = l.above (suc i) 0 (omega arith)

  -- ---- the floor
  floor_mk : (d : ℕ) (f : Ser R) → floor R (mk R d f) ≡ mk R d (keep R (suc d) f)
  unfolding floor
  floor_mk d f = refl

  -- its coefficients: those of x at 1, t, t², .., and 0 below
  pub floor_coef : (x : Lau R) (i j : ℕ) → j ≤ i → coef R i j (floor R x) ≡ coef R i j x
  floor_coef x i j l = lau_ind R (λ x. coef R i j (floor R x) ≡ coef R i j x) (λ x. R.laws.is_set _ _) (λ d f. ap (coef R i j) (floor_mk d f) ∙ go d f (dec_le i (d + j))) x
    where
      go : (d : ℕ) (f : Ser R) → Dec (i ≤ d + j) → coef R i j (mk R d (keep R (suc d) f)) ≡ coef R i j (mk R d f)
      go d f (yes k) = coef_in R i j d (keep R (suc d) f) (d + j - i) (omega arith) ∙ keep_in R (suc d) (d + j - i) f (omega arith) ∙ sym (coef_in R i j d f (d + j - i) (omega arith))
      go d f (no k) = coef_out R i j d (keep R (suc d) f) (omega arith) ∙ sym (coef_out R i j d f (omega arith))

  pub floor-IsPoly : (x : Lau R) → IsPoly R (floor R x)
  floor-IsPoly = lau_ind R (λ x. IsPoly R (floor R x)) (λ x. IsPoly-prop (floor R x)) (λ d f j.
      ap (coef R 0 (suc j)) (floor_mk d f) ∙ coef_in R 0 (suc j) d (keep R (suc d) f) (d + suc j) (omega arith) ∙ keep_out R (suc d) (d + suc j) f (omega arith))

  pub floor_rest : (x : Lau R) → Lead R (x ⊕ ⊖ floor R x) 0 0 0ᵏ
  floor_rest x = record { at = none 0 0 (omega arith); above = λ i j l. none i j (omega arith) }
    where
      none : (i j : ℕ) → j ≤ i → coef R i j (x ⊕ ⊖ floor R x) ≡ 0ᵏ
      none i j l = coef_sub R i j x (floor R x) ∙ ap (λ c. coef R i j x +ᵏ -ᵏ c) (floor_coef x i j l) ∙ R.laws.add_neg (coef R i j x)

  pub floor_unique : (x y : Lau R) → IsPoly R y → Lead R (x ⊕ ⊖ y) 0 0 0ᵏ → floor R x ≡ y
  floor_unique x y h l = poly_ext (floor R x) y (floor-IsPoly x) h (λ i. floor_coef x i 0 (omega arith) ∙ r.eq_of_sub R _ _ (sym (coef_sub R i 0 x y) ∙ at i))
    where
      at : (i : ℕ) → coef R i 0 (x ⊕ ⊖ y) ≡ 0ᵏ
      at zero = l.at
      at (suc i) = l.above (suc i) 0 (omega arith)

  pub floor_poly : (x : Lau R) → IsPoly R x → floor R x ≡ x
  floor_poly x h = poly_ext (floor R x) x (floor-IsPoly x) h (λ i. floor_coef x i 0 (omega arith))

  pub floor_add : (x y : Lau R) → floor R (x ⊕ y) ≡ floor R x ⊕ floor R y
  floor_add x y = poly_ext (floor R (x ⊕ y)) (floor R x ⊕ floor R y) (floor-IsPoly (x ⊕ y)) (add-IsPoly (floor R x) (floor R y) (floor-IsPoly x) (floor-IsPoly y)) (λ i.
      floor_coef (x ⊕ y) i 0 (omega arith) ∙ coef_add R i 0 x y ∙ sym (coef_add R i 0 (floor R x) (floor R y) ∙ ap₂ ◌+ᵏ◌ (floor_coef x i 0 (omega arith)) (floor_coef y i 0 (omega arith))))
