-- Powers in a commutative ring.
--   pow R x n   x · x · .. · x, n factors; 1 for n = 0
-- Their laws, the binomial theorem and Frobenius are in proofs/Power.antt.
use Rattle.std.specs.Prelude.{ℕ, zero, suc}
use Rattle.math_ring.specs.Ring.{CRing}

unfoldable pub pow : (R : CRing) → R.El → ℕ → R.El
pow R x zero = R.ops.𝟏
pow R x (suc n) = R.ops.mul x (pow R x n)
