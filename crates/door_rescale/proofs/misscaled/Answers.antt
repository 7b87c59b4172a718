-- `door_rescale::misscaled` meets its contract.
use mathlib.Core.Path.{◌≡◌, sym, ap, subst}
use mathlib.Core.Bool.{true, not}
use native.Mathlib.Decide.{ℕ_discrete}
use Rattle.std.proofs.Common.{rules, tests, nat_eq}
use Rattle.unit_scale.specs.Scale.{numbered as number_of}
use Rattle.door_rescale.specs.Test.{Misscaled}
use Rattle.door_rescale.proofs.Testing.{off_one, at_one}
use Rattle.door_rescale.proofs.misscaled.Goals as goal

pub returns-else-not-is_unit : goal.returns-else-not-is_unit
returns-else-not-is_unit c = let a = c.args in
    let n = c.factor.result in
    elim (ℕ_discrete n 1) [
      | yes e ↦ subst (Misscaled a.f (number_of a.convention) a.c a.rows.now) (sym (ap (λ m. not (nat_eq m 1)) e))
          (at_one c.requires c.factor.ensures e (λ G H kept. (c.is_unit.ensures G H kept).yes! c.if-not-is_unit.false))
      | no e ↦ let q : not (nat_eq n 1) ≡ true = search (rules, tests) in
          subst (Misscaled a.f (number_of a.convention) a.c a.rows.now) (sym q) (off_one c.requires c.factor.ensures e)
    ]
