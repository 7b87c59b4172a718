-- `basis_parts::plus` meets its contract: a product of two numbers below p is below p p, which is below 2^62.
use mathlib.Core.Path.{◌≡◌}
use Prim.Native.Nat.{◌+◌, ◌*◌, ◌<◌}
use native.Mathlib.Omega.{arith}
use Rattle.math_rows.specs.Made.{reading}
use Rattle.basis_parts.proofs.Leaves.{less_square, cast_less}
use Rattle.basis_parts.proofs.plus.Goals as goal

pub returns-else-s-q : goal.returns-else-s-q
returns-else-s-q c = let a = c.args in
    let e : a.q ≡ a.p * a.p = c.requires.is_q in
    let l : a.y * a.z < a.p * a.p = less_square a.p a.y a.z c.requires.hy c.requires.hz in
    record { below = omega arith; law = λ pr. cast_less (reading a.p pr) (a.x + a.y * a.z) a.q e (omega arith) }
