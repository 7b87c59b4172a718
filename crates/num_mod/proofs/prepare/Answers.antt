-- `num_mod::prepare` meets its contract: 64 p² fits.
use Prim.Native.Nat.{◌≤◌, ◌*◌}
use native.Mathlib.Omega.{arith}
use native.Mathlib.Nat.{mul-le-mul}
use Rattle.num_mod.proofs.Prepared.{made_low, made_high}
use Rattle.num_mod.proofs.prepare.Goals as goal

pub overflow_mul-lim : goal.overflow_mul-lim
overflow_mul-lim c = let p = c.args.p in let l : p ≤ 65535 = omega arith in let m : p * p ≤ 65535 * 65535 = mul-le-mul l l in omega arith

pub overflow_mul-lim-then-p-lt65536 : goal.overflow_mul-lim-then-p-lt65536
overflow_mul-lim-then-p-lt65536 c = let p = c.args.p in let l : p ≤ 65535 = omega arith in let m : p * p ≤ 65535 * 65535 = mul-le-mul l l in omega arith

pub returns-then-p-lt65536 : goal.returns-then-p-lt65536
returns-then-p-lt65536 c = made_low c.requires c.if-p-lt65536.true c.scale_of-m.ensures

pub returns-else-p-lt65536 : goal.returns-else-p-lt65536
returns-else-p-lt65536 c = made_high c.requires (omega arith) c.scale_of-m.ensures
