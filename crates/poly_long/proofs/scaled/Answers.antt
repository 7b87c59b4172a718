-- `poly_long::scaled` meets its contract.
use Prim.Native.Nat.{◌≤◌, ◌<◌, ◌*◌}
use mathlib.Core.Path.{◌≡◌}
use native.Mathlib.Omega.{arith}
use Rattle.poly_long.proofs.Loops.{product_small}
use Rattle.poly_long.proofs.scaled.Goals as goal

pub overflow_mul-result : goal.overflow_mul-result
overflow_mul-result c = let a = c.args in
    let l : a.s < a.p = c.requires.below in
    let b : a.p < 65536 = c.requires.modulus.small in
    let e : c.from.result ≡ a.x = c.from.ensures in
    let m : c.from.result * a.s ≤ 4294836225 = product_small c.from.result a.s (omega arith) (omega arith) in
    record { fits = omega arith }
