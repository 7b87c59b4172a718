-- The derivative of a Laurent series.
--   tilt a f   the series (a − i) f(i)
--   D x        d/dt: Σ f(i) t^(d − i) goes to Σ (d − i) f(i) t^(d − i − 1)
-- In proofs/Derivative: sums, products, constants, t, polynomials; in characteristic p a polynomial with derivative 0 is a p-th power.
use Rattle.std.specs.Prelude.{◌≡◌, [], ◌∷◌}
use Rattle.std.proofs.Math.Path.{sym, fun_ext}
use Rattle.std.proofs.Common.{◌∙◌, ap}
use mathlib.Core.Quot.{Quot-set}
use Prim.Native.Nat.{ℕ, zero, suc}
use Rattle.math_ring.specs.Ring.{CRing, nat}
use Rattle.math_ring.proofs.Laws as r
use Rattle.math_ring.proofs.Solve.{var, one, minus, ◌:+◌, ◌:*◌, solve}
use Rattle.math_laurent.specs.Series.{Ser, cons, up}
use Rattle.math_laurent.specs.Laurent.{Lau, mk, mk_up, lau_rec}

module _ (R : CRing) where
  open R.ops use {add as ◌+◌, mul as ◌*◌, neg as -◌}

  infixl 60 ◌+◌
  infixl 70 ◌*◌
  infix 80 -◌
  abbrev pub tilt : R.El → Ser R → Ser R
  tilt a f = λ i. (a + - nat R.ops i) * f i

  -- the value does not depend on d, since tilted by one more a series that is moved up is the tilted one moved up: `tilt_up` in proofs/Derivative
  unfoldable pub D : Lau R → Lau R
  unfolding cons nat
  D = lau_rec R Quot-set (λ d f. mk R d (up R (tilt (nat R.ops d) f)))
      (λ d f. mk_up R d (up R (tilt (nat R.ops d) f)) ∙ ap (λ g. mk R (suc d) (up R g)) (fun_ext (at d f)))
    where
      at : (d : ℕ) (f : Ser R) (n : ℕ) → up R (tilt (nat R.ops d) f) n ≡ tilt (nat R.ops (suc d)) (up R f) n
      at d f zero = sym (r.mul-zero R _)
      at d f (suc n) = solve R ((var 0 :+ minus (var 1)) :* var 2) ((one :+ var 0 :+ minus (one :+ var 1)) :* var 2) tt (nat R.ops d ∷ nat R.ops n ∷ f n ∷ [])
