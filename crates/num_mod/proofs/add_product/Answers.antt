-- `num_mod::add_product` meets its contract: a product below 2^62 and a sum below 2^63.
use Prim.Native.Nat.{◌<◌, ◌*◌, ◌+◌, ◌%◌}
use native.Mathlib.Omega.{arith}
use native.Mathlib.Nat.{mod-lt, mod-mod}
use Rattle.num_mod.proofs.Quick.{small_mul}
use Rattle.num_mod.proofs.add_product.Goals as goal

pub overflow_mul-v : goal.overflow_mul-v
overflow_mul-v c = omega (arith, small_mul c.args.x c.args.y (omega arith) (omega arith))

pub overflow_add-v : goal.overflow_add-v
overflow_add-v c = omega (arith, small_mul c.args.x c.args.y (omega arith) (omega arith))

pub returns-else-v-lt9223372036854775808 : goal.returns-else-v-lt9223372036854775808
returns-else-v-lt9223372036854775808 c = let a = c.args in
    let l : (a.s + a.x * a.y) % a.p < a.p = mod-lt (a.s + a.x * a.y) (omega arith) in
    record { low = omega arith; law = mod-mod (a.s + a.x * a.y) a.p }
