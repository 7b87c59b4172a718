-- `field_fill::thrice_inverse` meets its contract.
use Prim.Native.Nat.{◌*◌, ◌%◌}
use mathlib.Core.Path.{◌∙◌, sym, ap, subst}
use native.Mathlib.Nat.{mod-lt}
use native.Mathlib.Omega.{arith}
use Rattle.math_fp.proofs.Field.{ppos}
use Rattle.num_power.specs.Powers.{Nonzero, Inverse}
use Rattle.field_fill.proofs.Leads.{modulus_of, thrice_some, thrice_inverse_is}
use Rattle.field_fill.proofs.thrice_inverse.Goals as goal

pub mul-requires : goal.mul-requires
mul-requires c = record { modulus = modulus_of c.requires; left = c.requires.h_below; right = c.requires.h_below }

pub mul-requires-2 : goal.mul-requires-2
mul-requires-2 c = record { modulus = modulus_of c.requires; left = omega (arith, c.requires.low); right = omega (arith, c.mul.ensures, mod-lt (c.args.c * c.args.c) (ppos c.args.p c.requires.prime)) }

pub inverse-requires : goal.inverse-requires
inverse-requires c = subst (Nonzero c.args.p) (sym (c.mul-2.ensures ∙ ap (λ x. (3 * x) % c.args.p) c.mul.ensures)) (thrice_some c.requires)

pub returns : goal.returns
returns c = thrice_inverse_is c.requires c.inverse.result
    (subst (λ d. Inverse c.args.p d c.inverse.result) (c.mul-2.ensures ∙ ap (λ x. (3 * x) % c.args.p) c.mul.ensures) c.inverse.ensures)
