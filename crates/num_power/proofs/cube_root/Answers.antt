-- `num_power::cube_root` meets its contract: cubing is a bijection.
use Prim.Native.Nat.{◌<◌}
use native.Mathlib.Omega.{arith}
use Rattle.math_fp.specs.Fp.{third}
use Rattle.math_fp.proofs.Value.{pow_mod_below, root_value}
use Rattle.num_power.proofs.cube_root.Goals as goal

pub returns : goal.returns
returns c = let p = c.args.p in
    let a = c.args.a in
    let k = c.requires in
    let b : 1 < p = k.prime.big in
    let e = c.power.ensures in record {
      below = omega (arith, e, pow_mod_below p a (third p) (omega arith));
      law = root_value p k.prime a k.below k.kind _ e;
    }
