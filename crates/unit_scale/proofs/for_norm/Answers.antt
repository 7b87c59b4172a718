-- `unit_scale::for_norm` meets its contract: proofs/Scales.antt.
use Prim.Native.Nat.{◌<◌}
use mathlib.Core.Path.{sym, subst}
use Rattle.unit_scale.proofs.Numbers.{modulus_of}
use Rattle.unit_scale.proofs.Scales.{norm_at}
use Rattle.unit_scale.proofs.for_norm.Goals as goal

pub norm-v-requires : goal.norm-v-requires
norm-v-requires c = record {
  three = c.requires.three;
  modulus = c.requires.modulus;
  g_below = c.requires.g_below;
  h_below = c.requires.h_below;
  a_below = subst (λ v. v < c.args.p) (sym c.wide.ensures) (c.requires.each _);
  b_below = subst (λ v. v < c.args.p) (sym c.wide-2.ensures) (c.requires.each _);
  c_below = subst (λ v. v < c.args.p) (sym c.wide-3.ensures) (c.requires.each _);
}

pub inverse-u-requires : goal.inverse-u-requires
inverse-u-requires c = record {
  modulus = modulus_of c.requires.modulus;
  prime = c.requires.modulus.prime;
  pos = c.requires.some _ (norm_at c.wide.ensures c.wide-2.ensures c.wide-3.ensures c.norm-v.ensures);
  below = c.norm-v.ensures.below;
}

pub cube_root-requires : goal.cube_root-requires
cube_root-requires c = record { modulus = modulus_of c.requires.modulus; prime = c.requires.modulus.prime; kind = c.requires.kind; below = c.inverse-u.ensures.below }

pub returns : goal.returns
returns c = record {
  v = c.norm-v.result;
  is_norm = norm_at c.wide.ensures c.wide-2.ensures c.wide-3.ensures c.norm-v.ensures;
  u = c.inverse-u.result;
  inverse = c.inverse-u.ensures;
  root = c.cube_root.ensures;
}
