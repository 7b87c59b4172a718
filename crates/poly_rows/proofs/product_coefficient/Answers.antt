-- `poly_rows::product_coefficient` meets its contract: the terms left out are 0.
use mathlib.Core.Path.{◌∙◌}
use native.Mathlib.Omega.{arith}
use Rattle.poly_rows.proofs.Coefficients.{placed}
use Rattle.poly_rows.proofs.product_coefficient.Goals as goal

pub returns : goal.returns
returns c = let a = c.args in
    c.reduce.ensures ∙ placed a.q.p a.x.now a.n a.y.now a.m a.k _ _ _ c.requires.sy (omega arith) (omega arith) (omega arith) c.terms-v.ensures.law
