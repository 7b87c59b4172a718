-- `unit_scale::for_monic` meets its contract.
use Prim.Native.Nat.{◌<◌}
use mathlib.Core.Path.{sym, subst}
use native.Mathlib.Omega.{arith}
use Rattle.num_power.specs.Powers.{Inverse}
use Rattle.unit_scale.proofs.Numbers.{modulus_of, top_not_zero}
use Rattle.unit_scale.proofs.for_monic.Goals as goal

pub overflow_sub-n : goal.overflow_sub-n
overflow_sub-n c = let o = c.requires.some _ c.size-n.ensures in omega arith

pub bounds-rows-n : goal.bounds-rows-n
bounds-rows-n c = let o = c.requires.some _ c.size-n.ensures in let u = c.size-n.ensures.fits in let l = c.requires.inside in omega arith

pub inverse-requires : goal.inverse-requires
inverse-requires c = let z = c.size-n.ensures in
    let o = c.requires.some _ z in
    record {
      modulus = modulus_of c.requires.modulus;
      prime = c.requires.modulus.prime;
      pos = top_not_zero c.args.c c.args.rows.now c.requires.inside z o c.wide.ensures;
      below = subst (λ v. v < c.args.p) (sym c.wide.ensures) (c.requires.each _);
    }

pub returns : goal.returns
returns c = record {
  n = c.size-n.result;
  size = c.size-n.ensures;
  inverse = subst (λ v. Inverse c.args.p v c.inverse.result) c.wide.ensures c.inverse.ensures;
}
