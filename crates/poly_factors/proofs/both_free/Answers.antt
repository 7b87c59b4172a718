-- `poly_factors::both_free` meets its contract.
use mathlib.Core.Path.{sym, subst}
use Rattle.poly_factors.specs.Factors.{FreeTest}
use Rattle.poly_factors.proofs.Free.{not_left, by_right}
use Rattle.poly_factors.proofs.both_free.Goals as goal

pub returns-then-squarefree : goal.returns-then-squarefree
returns-then-squarefree c = by_right _ _ _ c.squarefree.result c.squarefree-then-squarefree.result c.squarefree.ensures c.if-squarefree.true c.squarefree-then-squarefree.ensures

pub returns-else-squarefree : goal.returns-else-squarefree
returns-else-squarefree c = let a = c.args in let f = c.if-squarefree.false in
    subst (FreeTest a.p a.x.now a.y.now) (sym f) (not_left a.p a.x.now a.y.now c.squarefree.result c.squarefree.ensures f)
