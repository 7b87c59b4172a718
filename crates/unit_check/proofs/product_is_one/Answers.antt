-- `unit_check::product_is_one` meets its contract.
use mathlib.Core.Path.{sym, subst}
use mathlib.Core.Bool.{false}
use Rattle.unit_check.specs.Code.{ProductGives}
use Rattle.unit_check.proofs.Product.{first_asks, second_asks, third_asks, product_first, product_second, product_third}
use borrow.Author.Rules.{rules}
use Rattle.unit_check.proofs.product_is_one.Goals as goal
use Rattle.unit_check.proofs.product_is_one.Goals.{then-coordinate, else-coordinate}

pub coordinate-requires : goal.coordinate-requires
coordinate-requires c = first_asks c.requires (search rules)

pub coordinate-requires-then-coordinate : goal.coordinate-requires-then-coordinate
coordinate-requires-then-coordinate c = second_asks c.requires (search rules)

pub coordinate-requires-then-coordinate-2 : goal.coordinate-requires-then-coordinate-2
coordinate-requires-then-coordinate-2 c = third_asks c.requires (search rules)

pub returns-then-coordinate-2 : goal.returns-then-coordinate-2
returns-then-coordinate-2 c = elim c.if-coordinate.branch [ then-coordinate w ↦ product_third c.requires c.coordinate.ensures (cc) w.coordinate-then-coordinate.ensures (cc) c.coordinate-then-coordinate-2.ensures | else-coordinate w ↦ absurd (cc) ]

pub returns-else-coordinate-2 : goal.returns-else-coordinate-2
returns-else-coordinate-2 c = let a = c.args in
    let k : ProductGives a.p a.c a.g.now a.h.now a.rows.now false = elim c.if-coordinate.branch [ then-coordinate w ↦ product_second c.requires w.coordinate-then-coordinate.ensures (cc) | else-coordinate w ↦ product_first c.requires c.coordinate.ensures (cc) ] in
    subst (ProductGives a.p a.c a.g.now a.h.now a.rows.now) (sym c.if-coordinate-2.false) k
