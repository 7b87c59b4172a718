-- `num_power::inverse` meets its contract: Fermat.
use mathlib.Core.Path.{ap, ◌∙◌}
use Prim.Native.Nat.{◌*◌, ◌-◌, ◌%◌, ◌<◌}
use native.Mathlib.Omega.{arith}
use Rattle.math_fp.proofs.Value.{pow_mod_below, inverse_value}
use Rattle.num_power.proofs.inverse.Goals as goal

pub overflow_sub-p : goal.overflow_sub-p
overflow_sub-p c = let b : 1 < c.args.p = c.requires.prime.big in omega arith

pub power-requires : goal.power-requires
power-requires c = record { modulus = c.requires.modulus; below = c.requires.below }

pub returns : goal.returns
returns c = let p = c.args.p in
    let a = c.args.a in
    let b : 1 < p = c.requires.prime.big in
    let e = c.power.ensures in record {
      below = omega (arith, e, pow_mod_below p a (p - 2) (omega arith));
      law = ap (λ n. (a * n) % p) e ∙ inverse_value p c.requires.prime a c.requires.below c.requires.pos;
    }
