-- Laurent series in 1/t over a commutative ring R, with equality by paths.
--   Lau R        the series: the set quotient of pairs (d, f) of a number and a power series by (d, f) ~ (d + 1, s f)
--   mk d f       the element Σ f(i) t^(d − i)
--   lau_rec F    the function with the value F d f at mk d f, where F d f = F (d + 1) (s f); lau_rec2 for two arguments
--   lops R       the operations: a sum is made at a common d, a product adds the d
--   const a, t   constants and the variable
-- The lemmas here say that the operations do not depend on d. In proofs/Laurent: the laws of a ring (`laurent R`).
use Rattle.std.specs.Prelude.{◌≡◌}
use Rattle.std.proofs.Math.Path.{refl, sym, ap, ap₂, fun_ext}
use Rattle.std.proofs.Common.{◌∙◌}
use mathlib.Core.HLevel.{→_set}
use mathlib.Core.Quot.{Quot, sound, Quot-set, lift, ind}
use Prim.Native.Nat.{ℕ, zero, suc, ◌+◌}
use Rattle.std.proofs.Math.Nat as N
use Rattle.math_ring.specs.Ring.{Ops, CRing}
use Rattle.math_ring.proofs.Laws as r
use Rattle.math_laurent.specs.Series.{Ser, tail, cons, up, ups, const_s, zero_s, conv, sops}

module _ (R : CRing) where
  abbrev pub Step : ℕ × Ser R → ℕ × Ser R → Type 0
  Step a b = b ≡ (suc a.0, up R a.1)

  abbrev pub Lau : Type 0
  Lau = Quot Step

  abbrev pub mk : ℕ → Ser R → Lau
  mk d f = Quot.mk (d, f)

  pub mk_up : (d : ℕ) (f : Ser R) → mk d f ≡ mk (suc d) (up R f)
  mk_up d f = sound refl

  abbrev pub lau_rec : {B : Type 0} (bs : IsSet B) (F : ℕ → Ser R → B) → ((d : ℕ) (f : Ser R) → F d f ≡ F (suc d) (up R f)) → Lau → B
  lau_rec bs F h = lift bs (λ a. F a.0 a.1) (λ a b e. h a.0 a.1 ∙ ap (λ c. F c.0 c.1) (sym e))

  -- what holds of each `mk` holds of every element
  pub lau_ind : (P : Lau → Type 0) → ((x : Lau) → IsProp (P x)) → ((d : ℕ) (f : Ser R) → P (mk d f)) → (x : Lau) → P x
  lau_ind P pp h = ind pp (λ a. h a.0 a.1)

  abbrev pub lau_rec2 : {B : Type 0} (bs : IsSet B) (F : ℕ → Ser R → ℕ → Ser R → B) →
      ((d : ℕ) (f : Ser R) (e : ℕ) (g : Ser R) → F d f e g ≡ F (suc d) (up R f) e g) →
      ((d : ℕ) (f : Ser R) (e : ℕ) (g : Ser R) → F d f e g ≡ F d f (suc e) (up R g)) → Lau → Lau → B
  lau_rec2 {B} bs F h₁ h₂ =
      lau_rec (→_set bs) (λ d f. lau_rec bs (F d f) (h₂ d f))
      (λ d f. fun_ext (lau_ind (λ y. lau_rec bs (F d f) (h₂ d f) y ≡ lau_rec bs (F (suc d) (up R f)) (h₂ (suc d) (up R f)) y) (λ y. bs _ _) (h₁ d f)))

  -- ---- multiplication by s goes through the operations of series
  pub ups_up : (n : ℕ) (f : Ser R) → ups R n (up R f) ≡ up R (ups R n f)
  unfolding ups
  ups_up zero f = refl
  ups_up (suc n) f = ap (up R) (ups_up n f)

  pub up_add : (f g : Ser R) → up R ((sops R).add f g) ≡ (sops R).add (up R f) (up R g)
  unfolding cons
  up_add f g = fun_ext at
    where
      at : (n : ℕ) → up R ((sops R).add f g) n ≡ (sops R).add (up R f) (up R g) n
      at zero = sym (R.laws.add-zero R.ops.𝟎)
      at (suc n) = refl

  pub up_neg : (f : Ser R) → up R ((sops R).neg f) ≡ (sops R).neg (up R f)
  unfolding cons
  up_neg f = fun_ext at
    where
      at : (n : ℕ) → up R ((sops R).neg f) n ≡ (sops R).neg (up R f) n
      at zero = sym (r.neg_zero R)
      at (suc n) = refl

  up_conv_at : (f g : Ser R) (n : ℕ) → conv R (up R f) g (suc n) ≡ conv R f g n
  unfolding cons conv
  up_conv_at f g zero = ap (R.ops.add (R.ops.mul (f 0) (g 0))) (r.zero_mul' R (g 1)) ∙ R.laws.add-zero (R.ops.mul (f 0) (g 0))
  up_conv_at f g (suc n) = ap (R.ops.add (R.ops.mul (f (suc n)) (g 0))) (up_conv_at f (tail g) n)

  pub up_conv : (f g : Ser R) → conv R (up R f) g ≡ up R (conv R f g)
  unfolding cons conv
  up_conv f g = fun_ext at
    where
      at : (n : ℕ) → conv R (up R f) g n ≡ up R (conv R f g) n
      at zero = r.zero_mul' R (g 0)
      at (suc n) = up_conv_at f g n

  pub conv_up : (f g : Ser R) → conv R f (up R g) ≡ up R (conv R f g)
  unfolding cons conv
  conv_up f g = fun_ext at
    where
      at : (n : ℕ) → conv R f (up R g) n ≡ up R (conv R f g) n
      at zero = r.mul-zero R (f 0)
      at (suc n) = ap (λ x. R.ops.add x (conv R f g n)) (r.mul-zero R (f (suc n))) ∙ r.zero_add' R (conv R f g n)

  -- ---- the operations
  pub add_left : (d : ℕ) (f : Ser R) (e : ℕ) (g : Ser R)
      → mk (d + e) ((sops R).add (ups R e f) (ups R d g)) ≡ mk (suc d + e) ((sops R).add (ups R e (up R f)) (ups R (suc d) g))
  unfolding ups
  add_left d f e g = mk_up _ _ ∙ ap₂ mk (sym (N.suc-add d e)) (up_add (ups R e f) (ups R d g) ∙ ap (λ h. (sops R).add h (up R (ups R d g))) (sym (ups_up e f)))

  pub add_right : (d : ℕ) (f : Ser R) (e : ℕ) (g : Ser R)
      → mk (d + e) ((sops R).add (ups R e f) (ups R d g)) ≡ mk (d + suc e) ((sops R).add (ups R (suc e) f) (ups R d (up R g)))
  unfolding ups
  add_right d f e g = mk_up _ _ ∙ ap₂ mk (sym (N.add-suc d e)) (up_add (ups R e f) (ups R d g) ∙ ap ((sops R).add (up R (ups R e f))) (sym (ups_up d g)))

  unfoldable pub add_l : Lau → Lau → Lau
  add_l = lau_rec2 Quot-set (λ d f e g. mk (d + e) ((sops R).add (ups R e f) (ups R d g))) add_left add_right

  unfoldable pub mul_l : Lau → Lau → Lau
  mul_l = lau_rec2 Quot-set (λ d f e g. mk (d + e) (conv R f g))
      (λ d f e g. mk_up _ _ ∙ ap₂ mk (sym (N.suc-add d e)) (sym (up_conv f g)))
      (λ d f e g. mk_up _ _ ∙ ap₂ mk (sym (N.add-suc d e)) (sym (conv_up f g)))

  unfoldable pub neg_l : Lau → Lau
  neg_l = lau_rec Quot-set (λ d f. mk d ((sops R).neg f)) (λ d f. mk_up _ _ ∙ ap (mk (suc d)) (up_neg f))

  abbrev pub const : R.El → Lau
  const a = mk 0 (const_s R a)

  abbrev pub t : Lau
  t = mk 1 (const_s R R.ops.𝟏)

  abbrev pub lops : Ops Lau
  lops = record { add = add_l; mul = mul_l; neg = neg_l; 𝟎 = mk 0 (zero_s R); 𝟏 = const R.ops.𝟏 }
