-- The coefficients of a Laurent series.
--   coef_ext     they determine the element
--   coef_move    they depend on p − q alone
--   coef_add ..  of sums, negatives, constants, a x, t x
--   coef_mul     of a product: at the offsets of its factors, the product of power series
use mathlib.Core.Path.{◌≡◌, refl, sym, ◌∙◌, ap, ap₂, fun_ext}
use mathlib.Core.HLevel.{Π_prop}
use mathlib.Core.Quot.{Quot-set}
use Prim.Native.Nat.{ℕ, zero, suc, ◌+◌, ◌≤◌, ◌<◌, ◌-◌}
use native.Mathlib.Nat as N
use native.Mathlib.Decide.{dec_le}
use native.Mathlib.Omega.{arith}
use Rattle.math_ring.specs.Ring.{CRing}
use Rattle.math_ring.proofs.Laws as r
use Rattle.math_laurent.specs.Series.{Ser, cons, zero_s, ups, const_s, scale_s, mul_s, sops}
use Rattle.math_laurent.specs.Laurent.{Lau, mk, lau_ind, add_l, mul_l, neg_l, lops, const, t}
use Rattle.math_laurent.specs.Degree.{pick, coef, term}
use Rattle.math_laurent.proofs.Series.{ups_low, ups_high, const_mul_at}
use Rattle.math_laurent.proofs.Laurent.{lau_ind2, add_mk, neg_mk, mul_mk, t_mk}

module _ (R : CRing) where
  open R.ops use {add as ◌+ᵏ◌, mul as ◌*ᵏ◌, neg as -ᵏ◌, 𝟎 as 0ᵏ}

  infixl 60 ◌+ᵏ◌
  infixl 70 ◌*ᵏ◌
  infix 80 -ᵏ◌
  pub coef_mk : (p q d : ℕ) (f : Ser R) → coef R p q (mk R d f) ≡ pick R (d + q) p f
  unfolding coef
  coef_mk p q d f = refl

  pick_in : (e p : ℕ) (f : Ser R) → p ≤ e → pick R e p f ≡ f (e - p)
  unfolding pick
  pick_in e zero f h = ap f (omega arith)
  pick_in zero (suc p) f h = absurd (omega arith)
  pick_in (suc e) (suc p) f h = pick_in e p f (omega arith) ∙ ap f (omega arith)

  pick_out : (e p : ℕ) (f : Ser R) → e < p → pick R e p f ≡ 0ᵏ
  unfolding pick
  pick_out e zero f h = absurd (omega arith)
  pick_out zero (suc p) f h = refl
  pick_out (suc e) (suc p) f h = pick_out e p f (omega arith)

  -- ---- the coefficients of `mk d f`: f n at t^(d − n), and 0 above t^d
  pub coef_in : (p q d : ℕ) (f : Ser R) (n : ℕ) → d + q ≡ p + n → coef R p q (mk R d f) ≡ f n
  coef_in p q d f n e = coef_mk p q d f ∙ pick_in (d + q) p f (omega arith) ∙ ap f (omega arith)

  pub coef_out : (p q d : ℕ) (f : Ser R) → d + q < p → coef R p q (mk R d f) ≡ 0ᵏ
  coef_out p q d f h = coef_mk p q d f ∙ pick_out (d + q) p f h

  pub coef_ext : (x y : Lau R) → ((i j : ℕ) → coef R i j x ≡ coef R i j y) → x ≡ y
  coef_ext = lau_ind2 R (λ x y. ((i j : ℕ) → coef R i j x ≡ coef R i j y) → x ≡ y) (λ x y. Π_prop (λ h. Quot-set x y)) (λ d f g h.
      ap (mk R d) (fun_ext (λ n. sym (coef_in d n d f n refl) ∙ h d n ∙ coef_in d n d g n refl)))

  pub mk_inj : (d : ℕ) (f g : Ser R) → mk R d f ≡ mk R d g → f ≡ g
  mk_inj d f g e = fun_ext (λ n. sym (coef_in d n d f n refl) ∙ ap (coef R d n) e ∙ coef_in d n d g n refl)

  pub coef_move : (p q p' q' : ℕ) (x : Lau R) → p + q' ≡ p' + q → coef R p q x ≡ coef R p' q' x
  coef_move p q p' q' x e = lau_ind R (λ x. coef R p q x ≡ coef R p' q' x) (λ x. R.laws.is_set _ _) (λ d f. go d f (dec_le p (d + q))) x
    where
      go : (d : ℕ) (f : Ser R) → Dec (p ≤ d + q) → coef R p q (mk R d f) ≡ coef R p' q' (mk R d f)
      go d f (yes l) = coef_in p q d f (d + q - p) (omega arith) ∙ sym (coef_in p' q' d f (d + q - p) (omega arith))
      go d f (no l) = coef_out p q d f (omega arith) ∙ sym (coef_out p' q' d f (omega arith))

  -- ---- sums, negatives, multiples
  pick_map : (e p : ℕ) (φ : R.El → R.El) (f : Ser R) → φ 0ᵏ ≡ 0ᵏ → pick R e p (λ n. φ (f n)) ≡ φ (pick R e p f)
  unfolding pick
  pick_map e zero φ f z = refl
  pick_map zero (suc p) φ f z = sym z
  pick_map (suc e) (suc p) φ f z = pick_map e p φ f z

  pick_add : (e p : ℕ) (f g : Ser R) → pick R e p ((sops R).add f g) ≡ pick R e p f +ᵏ pick R e p g
  unfolding pick
  pick_add e zero f g = refl
  pick_add zero (suc p) f g = sym (R.laws.add-zero 0ᵏ)
  pick_add (suc e) (suc p) f g = pick_add e p f g

  pub coef_add : (p q : ℕ) (x y : Lau R) → coef R p q (add_l R x y) ≡ coef R p q x +ᵏ coef R p q y
  coef_add p q = lau_ind2 R (λ x y. coef R p q (add_l R x y) ≡ coef R p q x +ᵏ coef R p q y) (λ x y. R.laws.is_set _ _) (λ d f g.
      ap (coef R p q) (add_mk R d f g) ∙ coef_mk p q d ((sops R).add f g) ∙ pick_add (d + q) p f g ∙ sym (ap₂ ◌+ᵏ◌ (coef_mk p q d f) (coef_mk p q d g)))

  pub coef_neg : (p q : ℕ) (x : Lau R) → coef R p q (neg_l R x) ≡ -ᵏ coef R p q x
  coef_neg p q = lau_ind R (λ x. coef R p q (neg_l R x) ≡ -ᵏ coef R p q x) (λ x. R.laws.is_set _ _) (λ d f.
      ap (coef R p q) (neg_mk R d f) ∙ coef_mk p q d ((sops R).neg f) ∙ pick_map (d + q) p (λ a. -ᵏ a) f (r.neg_zero R) ∙ ap (λ a. -ᵏ a) (sym (coef_mk p q d f)))

  pub coef_sub : (p q : ℕ) (x y : Lau R) → coef R p q (add_l R x (neg_l R y)) ≡ coef R p q x +ᵏ -ᵏ coef R p q y
  coef_sub p q x y = coef_add p q x (neg_l R y) ∙ ap (λ a. coef R p q x +ᵏ a) (coef_neg p q y)

  pub coef_zero : (p q : ℕ) → coef R p q (lops R).𝟎 ≡ 0ᵏ
  coef_zero p q = coef_mk p q 0 (zero_s R) ∙ pick_map (0 + q) p (λ a. 0ᵏ) (zero_s R) refl

  pub coef_scale : (p q : ℕ) (a : R.El) (x : Lau R) → coef R p q (mul_l R (const R a) x) ≡ a *ᵏ coef R p q x
  coef_scale p q a = lau_ind R (λ x. coef R p q (mul_l R (const R a) x) ≡ a *ᵏ coef R p q x) (λ x. R.laws.is_set _ _) (λ d f.
      ap (coef R p q) (mul_mk R 0 (const_s R a) d f ∙ ap₂ (mk R) (N.zero-add d) (fun_ext (const_mul_at R a f)))
      ∙ coef_mk p q d (scale_s R a f) ∙ pick_map (d + q) p (λ b. a *ᵏ b) f (r.mul-zero R a) ∙ ap (λ b. a *ᵏ b) (sym (coef_mk p q d f)))

  -- ---- t x: its coefficient at t^(p + 1 − q) is that of x at t^(p − q)
  pub coef_t : (p q : ℕ) (x : Lau R) → coef R (suc p) q (mul_l R (t R) x) ≡ coef R p q x
  unfolding pick
  coef_t p q = lau_ind R (λ x. coef R (suc p) q (mul_l R (t R) x) ≡ coef R p q x) (λ x. R.laws.is_set _ _) (λ d f.
      ap (coef R (suc p) q) (t_mk R d f) ∙ coef_mk (suc p) q (suc d) f ∙ ap (λ e. pick R e (suc p) f) (N.suc-add d q) ∙ sym (coef_mk p q d f))

  pub coef_t_low : (q : ℕ) (x : Lau R) → coef R 0 q (mul_l R (t R) x) ≡ coef R 0 (suc q) x
  coef_t_low q x = coef_move 0 q 1 (suc q) (mul_l R (t R) x) (omega arith) ∙ coef_t 0 (suc q) x

  -- ---- constants
  pub coef_const : (a : R.El) → coef R 0 0 (const R a) ≡ a
  unfolding cons
  coef_const a = coef_in 0 0 0 (const_s R a) 0 refl

  pub coef_const_neg : (a : R.El) (j : ℕ) → coef R 0 (suc j) (const R a) ≡ 0ᵏ
  unfolding cons
  coef_const_neg a j = coef_in 0 (suc j) 0 (const_s R a) (suc j) refl

  pub coef_const_pos : (a : R.El) (p q : ℕ) → q < p → coef R p q (const R a) ≡ 0ᵏ
  coef_const_pos a p q h = coef_out p q 0 (const_s R a) (omega arith)

  -- ---- `term p q f`: f n at t^(p − q − n), and 0 above t^(p − q)
  pub coef_term : (p q i j : ℕ) (f : Ser R) (n : ℕ) → p + j ≡ i + q + n → coef R i j (term R p q f) ≡ f n
  coef_term p q i j f n e = coef_in i j p (ups R q f) (q + n) (omega arith) ∙ ups_high R q n f

  pub coef_term_above : (p q i j : ℕ) (f : Ser R) → p + j < i + q → coef R i j (term R p q f) ≡ 0ᵏ
  coef_term_above p q i j f h = go (dec_le i (p + j))
    where
      go : Dec (i ≤ p + j) → coef R i j (term R p q f) ≡ 0ᵏ
      go (yes l) = coef_in i j p (ups R q f) (p + j - i) (omega arith) ∙ ups_low R q (p + j - i) f (omega arith)
      go (no l) = coef_out i j p (ups R q f) (omega arith)

  -- ---- products, where x = t^(p − q) f(1/t) and y = t^(p' − q') g(1/t)
  pub coef_mul : (d e n : ℕ) (f g : Ser R) → coef R (d + e) n (mul_l R (mk R d f) (mk R e g)) ≡ mul_s R f g n
  coef_mul d e n f g = ap (coef R (d + e) n) (mul_mk R d f e g) ∙ coef_in (d + e) n (d + e) (mul_s R f g) n refl
