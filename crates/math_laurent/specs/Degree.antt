-- Coefficients and degrees of Laurent series. An exponent is a difference p − q of two naturals, so that `omega` does the arithmetic.
--   coef p q x      the coefficient of x at t^(p − q)
--   Lead x p q c    the coefficient of x at t^(p − q) is c, and all above vanish: deg x < p − q where c is 0, deg x = p − q otherwise
--   term p q f      t^(p − q) (f 0 + f 1 t⁻¹ + f 2 t⁻² + ..)
-- In proofs/Coef: the coefficients determine the element; coefficients of sums and of t x. In proofs/Degree: degrees of sums, products and
-- inverses, uniqueness, and that `Lead x p q c` says x = term p q f with f 0 = c.
use Rattle.std.specs.Prelude.{◌≡◌}
use Rattle.std.proofs.Math.Path.{refl}
use Rattle.std.proofs.Common.{sym, ◌∙◌, ap}
use Prim.Native.Nat.{ℕ, zero, suc, ◌+◌, ◌<◌}
use Rattle.std.proofs.Math.Nat as N
use Rattle.math_ring.specs.Ring.{CRing}
use Rattle.math_laurent.specs.Series.{Ser, cons, up, ups}
use Rattle.math_laurent.specs.Laurent.{Lau, mk, lau_rec}

module _ (R : CRing) where
  -- the coefficient with index e − p, 0 where p is past e
  unfoldable pub pick : ℕ → ℕ → Ser R → R.El
  pick e zero f = f e
  pick zero (suc p) f = R.ops.𝟎
  pick (suc e) (suc p) f = pick e p f

  pub pick_up : (e p : ℕ) (f : Ser R) → pick e p f ≡ pick (suc e) p (up R f)
  unfolding pick cons
  pick_up e zero f = refl
  pick_up zero (suc zero) f = refl
  pick_up zero (suc (suc p)) f = refl
  pick_up (suc e) (suc p) f = pick_up e p f

  unfoldable pub coef : ℕ → ℕ → Lau R → R.El
  coef p q = lau_rec R R.laws.is_set (λ d f. pick (d + q) p f) (λ d f. pick_up (d + q) p f ∙ ap (λ n. pick n p (up R f)) (sym (N.suc-add d q)))

  pub record Lead (x : Lau R) (p q : ℕ) (c : R.El) : Type 0 where
    pub at : coef p q x ≡ c
    pub above : (i j : ℕ) → p + j < i + q → coef i j x ≡ R.ops.𝟎

  abbrev pub term : ℕ → ℕ → Ser R → Lau R
  term p q f = mk R p (ups R q f)
