-- `unit_inverse::norm` meets its contract: proofs/Cofactors.antt.
use Prim.Native.Nat.{◌+◌}
use native.Mathlib.Omega.{arith}
use Rattle.unit_inverse.proofs.Cofactors.{norm_first, norm_long, norm_made}
use Rattle.unit_inverse.proofs.norm.Goals as goal

pub mix-requires : goal.mix-requires
mix-requires c = record {
  modulus = c.requires.modulus;
  g_most = norm_long c.args.p c.args.c c.args.gh.now c.args.rows.now c.requires c.args.c (omega arith);
  h_most = norm_long c.args.p c.args.c c.args.gh.now c.args.rows.now c.requires (c.args.c + c.args.c) (omega arith);
  d_most = omega arith;
}

pub mix-requires-2 : goal.mix-requires-2
mix-requires-2 c = record { modulus = c.requires.modulus; g_most = omega (arith, c.requires.gh_most); h_most = norm_first c.args.p c.args.c c.args.gh.now c.args.rows.now c.requires; d_most = omega arith }

pub returns : goal.returns
returns c = norm_made c.args.p c.args.c c.args.gh.now c.args.rows.now c.requires _ _ _ c.mix.ensures c.mix-2.ensures c.wide.ensures
