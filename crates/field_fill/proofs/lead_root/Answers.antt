-- `field_fill::lead_root` meets its contract.
use Prim.Native.Nat.{◌*◌, ◌%◌}
use mathlib.Core.Path.{◌∙◌, ap, subst}
use native.Mathlib.Nat.{mod-lt}
use native.Mathlib.Omega.{arith}
use Rattle.math_fp.proofs.Field.{ppos}
use Rattle.num_power.specs.Powers.{CubeRoot}
use Rattle.field_fill.proofs.Leads.{modulus_of, lead_root_is}
use Rattle.field_fill.proofs.lead_root.Goals as goal

pub mul-requires : goal.mul-requires
mul-requires c = record { modulus = modulus_of c.requires; left = c.requires.h_below; right = c.requires.h_below }

pub mul-requires-2 : goal.mul-requires-2
mul-requires-2 c = record { modulus = modulus_of c.requires; left = c.requires.g_below; right = omega (arith, c.mul.ensures, mod-lt (c.args.h * c.args.h) (ppos c.args.p c.requires.prime)) }

pub cube_root-requires : goal.cube_root-requires
cube_root-requires c = record {
  modulus = modulus_of c.requires;
  prime = c.requires.prime;
  kind = c.requires.kind;
  below = omega
      (arith, c.mul-2.ensures, mod-lt (c.args.g * c.mul.result) (ppos c.args.p c.requires.prime));
}

pub returns : goal.returns
returns c = lead_root_is c.requires c.cube_root.result
    (subst (λ d. CubeRoot c.args.p d c.cube_root.result) (c.mul-2.ensures ∙ ap (λ x. (c.args.g * x) % c.args.p) c.mul.ensures) c.cube_root.ensures)
