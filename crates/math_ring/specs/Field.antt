-- A discrete field: a commutative ring whose equality is decided, where what is not 0 has an inverse.
use Rattle.std.specs.Prelude.{◌≡◌, ◌≢◌}
use Rattle.math_ring.specs.Ring.{CRing}

pub record Field (R : CRing) : Type 0 where
  pub dec : Discrete R.El
  pub inv : (x : R.El) → x ≢ R.ops.𝟎 → (y : R.El) × (R.ops.mul x y ≡ R.ops.𝟏)
