-- `num_power::mul` meets its contract. The product of two numbers below 2^31 fits.
use Prim.Native.Nat.{◌≤◌}
use native.Mathlib.Nat.{mul-le-mul}
use native.Mathlib.Omega.{arith}
use Rattle.num_power.proofs.mul.Goals as goal

pub overflow_mul-result : goal.overflow_mul-result
overflow_mul-result c = let l : c.args.a ≤ 2147483647 = omega arith in
    let r : c.args.b ≤ 2147483647 = omega arith in
    omega (arith, mul-le-mul l r)
