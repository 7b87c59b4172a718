-- `poly_rows::quotient_coefficient` meets its contract: the terms left out are 0.
use mathlib.Core.Path.{ap, ◌∙◌}
use Prim.Native.Nat.{◌≤◌, ◌<◌, ◌-◌, ◌*◌, ◌+◌, ◌%◌}
use native.Mathlib.Omega.{arith}
use lib.ListN.{get_or}
use Rattle.poly_rows.proofs.Division.{digit_sum}
use Rattle.poly_rows.proofs.quotient_coefficient.Goals as goal

pub returns : goal.returns
returns c = let a = c.args in
    let at = a.k + (a.m - 1) in
    let fits : a.top + a.m ≤ 33 = c.requires.fits in
    let low : a.k < a.top = c.requires.at in
    c.reduce.ensures
    ∙ ap (λ v. ((get_or a.a.now at 0 + (a.s.p - v)) * a.il) % a.s.p)
    (c.reduce-v.ensures ∙ digit_sum a.s a.a.now a.q.now a.b.now a.m a.il a.top a.k _ _ c.requires (omega arith)
    (omega arith) c.terms-u.ensures.law)
