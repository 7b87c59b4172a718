-- `basis_parts::digit` meets its contract: `part_minus`, `part_plus`.
use mathlib.Core.Path.{sym, ap, ◌∙◌, subst}
use Prim.Native.Nat.{◌%◌}
use Rattle.basis_parts.proofs.Leaves.{Sums, sums_quick, sums_large, part_minus, part_plus, part_as}
use Rattle.basis_parts.proofs.digit.Goals as goal
use Rattle.basis_parts.proofs.digit.Goals.{then-p-lt65536, else-p-lt65536, then-minus, else-minus}

pub returns : goal.returns
returns c = let a = c.args in
    let s : Sums a.f.now a.b.now a.c.now a.top a.j c.if-p-lt65536.x = elim c.if-p-lt65536.branch [
      | then-p-lt65536 w ↦ subst (λ t. Sums a.f.now a.b.now a.c.now a.top a.j t) (sym w.x-is) (sums_quick c.requires w.plain-x.ensures w.plain-y.ensures)
      | else-p-lt65536 w ↦ subst (λ t. Sums a.f.now a.b.now a.c.now a.top a.j t) (sym w.x-is) (sums_large c.requires w.terms-x.ensures w.terms-y.ensures)
    ] in
    elim c.if-minus.branch [
      | then-minus w ↦ part_as (c.reduce.ensures ∙ ap (λ v. v % a.f.now.m.p) w.v-is) (part_minus c.requires.inp _ _ _ _ s.none s.hx s.hy s.le w.if-minus.true)
      | else-minus w ↦ part_as (c.reduce.ensures ∙ ap (λ v. v % a.f.now.m.p) w.v-is) (part_plus c.requires.inp _ _ _ _ s.none s.hx s.hy s.le w.if-minus.false)
    ]
