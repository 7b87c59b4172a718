-- Degrees of Laurent series: the laws of `Lead x p q c`, over any commutative ring.
--   lead_term      `Lead x p q c` says that x = term p q f with f 0 = c; term_lead is the other way
--   lead_add ..    sums, negatives, products
--   lead_move ..   the same degree as another difference; a larger bound; the next coefficient below
--   lead_unique    one coefficient at one place
--   bounded        every series has a bound
use mathlib.Core.Path.{◌≡◌, refl, sym, ◌∙◌, ap, ap₂, subst}
use mathlib.Core.Logic.{∥∥₁_prop}
use Prim.Native.Nat.{ℕ, suc, ◌+◌, ◌≤◌, ◌<◌, ◌-◌}
use native.Mathlib.Nat as N
use native.Mathlib.Decide.{dec_le, ℕ_discrete}
use native.Mathlib.Omega.{arith}
use Rattle.math_ring.specs.Ring.{CRing}
use Rattle.math_ring.proofs.Laws as r
use Rattle.math_laurent.specs.Series.{Ser, ups, cons, const_s, mul_s}
use Rattle.math_laurent.specs.Laurent.{Lau, mk, lau_ind, add_l, mul_l, neg_l, lops, const, t}
use Rattle.math_laurent.specs.Degree.{coef, Lead, term}
use Rattle.math_laurent.proofs.Series.{ups_mul, mul_first}
use Rattle.math_laurent.proofs.Laurent.{mul_mk}
use Rattle.math_laurent.proofs.Coef.{coef_ext, coef_move, coef_out, coef_add, coef_neg, coef_zero, coef_const, coef_const_pos, coef_term, coef_term_above}

module _ (R : CRing) where
  open R.ops use {add as ◌+ᵏ◌, mul as ◌*ᵏ◌, neg as -ᵏ◌, 𝟎 as 0ᵏ, 𝟏 as 1ᵏ}

  infixl 60 ◌+ᵏ◌
  infixl 70 ◌*ᵏ◌
  infix 80 -ᵏ◌
  pub lead_eq : {x y : Lau R} {p q : ℕ} {a b : R.El} → Lead R x p q a → x ≡ y → a ≡ b → Lead R y p q b
  lead_eq {x} {y} {p} {q} {a} {b} h e f = subst (λ c. Lead R y p q c) f (subst (λ z. Lead R z p q a) e h)

  -- ---- as a product of t^(p − q) and a series in 1/t
  pub term_move : (p q p' q' : ℕ) (f : Ser R) → p + q' ≡ p' + q → term R p q f ≡ term R p' q' f
  term_move p q p' q' f e = coef_ext R (term R p q f) (term R p' q' f) (λ i j. go i j (dec_le (i + q) (p + j)))
    where
      go : (i j : ℕ) → Dec (i + q ≤ p + j) → coef R i j (term R p q f) ≡ coef R i j (term R p' q' f)
      go i j (yes l) = coef_term R p q i j f (p + j - (i + q)) (omega arith) ∙ sym (coef_term R p' q' i j f (p + j - (i + q)) (omega arith))
      go i j (no l) = coef_term_above R p q i j f (omega arith) ∙ sym (coef_term_above R p' q' i j f (omega arith))

  pub term_mul : (p q p' q' : ℕ) (f g : Ser R) → mul_l R (term R p q f) (term R p' q' g) ≡ term R (p + p') (q + q') (mul_s R f g)
  term_mul p q p' q' f g = mul_mk R p (ups R q f) p' (ups R q' g) ∙ ap (mk R (p + p')) (ups_mul R q q' f g)

  pub term_lead : (p q : ℕ) (f : Ser R) → Lead R (term R p q f) p q (f 0)
  term_lead p q f = record { at = coef_term R p q p q f 0 (omega arith); above = λ i j h. coef_term_above R p q i j f h }

  -- the coefficients of x from t^(p − q) down
  abbrev pub fall : Lau R → ℕ → ℕ → Ser R
  fall x p q = λ n. coef R p (q + n) x

  pub lead_term : {x : Lau R} {p q : ℕ} {c : R.El} → Lead R x p q c → x ≡ term R p q (fall x p q)
  lead_term {x} {p} {q} h = coef_ext R x (term R p q (fall x p q)) (λ i j. go i j (dec_le (i + q) (p + j)))
    where
      go : (i j : ℕ) → Dec (i + q ≤ p + j) → coef R i j x ≡ coef R i j (term R p q (fall x p q))
      go i j (yes l) = coef_move R i j p (q + (p + j - (i + q))) x (omega arith) ∙ sym (coef_term R p q i j (fall x p q) (p + j - (i + q)) (omega arith))
      go i j (no l) = h.above i j (omega arith) ∙ sym (coef_term_above R p q i j (fall x p q) (omega arith))

  pub lead_fall : {x : Lau R} {p q : ℕ} {c : R.El} → Lead R x p q c → fall x p q 0 ≡ c
  lead_fall {x} {p} {q} h = ap (λ n. coef R p n x) (N.add-zero q) ∙ h.at

  -- ---- sums and products
  pub lead_zero : (p q : ℕ) → Lead R (lops R).𝟎 p q 0ᵏ
  lead_zero p q = record { at = coef_zero R p q; above = λ i j h. coef_zero R i j }

  pub lead_add : {x y : Lau R} {p q : ℕ} {a b : R.El} → Lead R x p q a → Lead R y p q b → Lead R (add_l R x y) p q (a +ᵏ b)
  lead_add {x} {y} {p} {q} h g = record {
    at = coef_add R p q x y ∙ ap₂ ◌+ᵏ◌ h.at g.at;
    above = λ i j l. coef_add R i j x y ∙ ap₂ ◌+ᵏ◌ (h.above i j l) (g.above i j l) ∙ R.laws.add-zero 0ᵏ;
  }

  pub lead_neg : {x : Lau R} {p q : ℕ} {a : R.El} → Lead R x p q a → Lead R (neg_l R x) p q (-ᵏ a)
  lead_neg {x} {p} {q} h = record {
    at = coef_neg R p q x ∙ ap (λ c. -ᵏ c) h.at;
    above = λ i j l. coef_neg R i j x ∙ ap (λ c. -ᵏ c) (h.above i j l) ∙ r.neg_zero R;
  }

  pub lead_sub : {x y : Lau R} {p q : ℕ} {a b : R.El} → Lead R x p q a → Lead R y p q b → Lead R (add_l R x (neg_l R y)) p q (a +ᵏ -ᵏ b)
  lead_sub h g = lead_add h (lead_neg g)

  pub lead_mul : {x y : Lau R} {p q p' q' : ℕ} {a b : R.El} → Lead R x p q a → Lead R y p' q' b → Lead R (mul_l R x y) (p + p') (q + q') (a *ᵏ b)
  lead_mul {x} {y} {p} {q} {p'} {q'} h g =
      let f : Ser R = fall x p q in
      let v : Ser R = fall y p' q' in
      lead_eq (term_lead (p + p') (q + q') (mul_s R f v))
      (sym (ap₂ (mul_l R) (lead_term h) (lead_term g) ∙ term_mul p q p' q' f v))
      (mul_first R f v ∙ ap₂ ◌*ᵏ◌ (lead_fall h) (lead_fall g))

  -- ---- constants and the variable
  pub lead_const : (a : R.El) → Lead R (const R a) 0 0 a
  lead_const a = record { at = coef_const R a; above = λ i j h. coef_const_pos R a i j (omega arith) }

  pub lead_t : Lead R (t R) 1 0 1ᵏ
  unfolding ups cons
  lead_t = term_lead 1 0 (const_s R 1ᵏ)

  -- ---- other places
  pub lead_move : {x : Lau R} {p q : ℕ} {a : R.El} (p' q' : ℕ) → Lead R x p q a → p + q' ≡ p' + q → Lead R x p' q' a
  lead_move {x} {p} {q} p' q' h e = record { at = coef_move R p' q' p q x (omega arith) ∙ h.at; above = λ i j l. h.above i j (omega arith) }

  pub lead_up : {x : Lau R} {p q : ℕ} {a : R.El} (p' q' : ℕ) → Lead R x p q a → p + q' < p' + q → Lead R x p' q' 0ᵏ
  lead_up p' q' h l = record { at = h.above p' q' l; above = λ i j k. h.above i j (omega arith) }

  pub lead_down : {x : Lau R} {p q : ℕ} → Lead R x p q 0ᵏ → Lead R x p (suc q) (coef R p (suc q) x)
  lead_down {x} {p} {q} h = record { at = refl; above = λ i j l. go i j l (ℕ_discrete (p + j) (i + q)) }
    where
      go : (i j : ℕ) → p + j < i + suc q → Dec (p + j ≡ i + q) → coef R i j x ≡ 0ᵏ
      go i j l (yes e) = coef_move R i j p q x (omega arith) ∙ h.at
      go i j l (no e) = h.above i j (omega arith)

  pub lead_unique : {x : Lau R} {p q : ℕ} {a b : R.El} → Lead R x p q a → Lead R x p q b → a ≡ b
  lead_unique h g = sym h.at ∙ g.at

  -- a bound, raised
  pub lead_raise : {x : Lau R} {p q : ℕ} (p' q' : ℕ) → Lead R x p q 0ᵏ → p + q' ≤ p' + q → Lead R x p' q' 0ᵏ
  lead_raise {x} {p} {q} p' q' h l = elim (dec_le (p' + q) (p + q')) [ yes e ↦ lead_move p' q' h (omega arith) | no e ↦ lead_up p' q' h (omega arith) ]

  -- every series has a bound; which one is not told, for `mk d f` has many forms
  pub bounded : (x : Lau R) → ∥ ((n : ℕ) × Lead R x n 0 0ᵏ) ∥₁
  bounded = lau_ind R (λ x. ∥ ((n : ℕ) × Lead R x n 0 0ᵏ) ∥₁) (λ x. ∥∥₁_prop) (λ d f.
      ∣ (suc d, record { at = coef_out R (suc d) 0 d f (omega arith); above = λ i j l. coef_out R i j d f (omega arith) }) ∣₁)
