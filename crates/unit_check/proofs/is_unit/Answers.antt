-- `unit_check::is_unit` meets its contract.
use mathlib.Core.Path.{sym, subst}
use mathlib.Core.Bool.{false}
use Rattle.unit_check.specs.Check.{IsUnitGives}
use Rattle.unit_check.proofs.Answer.{unit_small, unit_inverse, unit_longer}
use Rattle.unit_check.proofs.is_unit.Goals as goal
use Rattle.unit_check.proofs.is_unit.Goals.{then-below, else-below}

pub returns-then-is_inverse : goal.returns-then-is_inverse
returns-then-is_inverse c = elim c.if-below.branch [ then-below w ↦ unit_longer c.requires c.below.ensures (cc) w.is_inverse.ensures (cc) c.longer.ensures | else-below w ↦ absurd (cc) ]

pub returns-else-is_inverse : goal.returns-else-is_inverse
returns-else-is_inverse c = let a = c.args in
    let k : IsUnitGives a.f a.c a.rows.now false = elim c.if-below.branch [ then-below w ↦ unit_inverse c.requires w.is_inverse.ensures (cc) | else-below w ↦ unit_small c.requires c.below.ensures (cc) ] in
    subst (IsUnitGives a.f a.c a.rows.now) (sym c.if-is_inverse.false) k
