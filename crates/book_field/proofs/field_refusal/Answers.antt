-- `book_field::field_refusal` meets its contract.
use Rattle.book_field.specs.Code.{Clipped}
use lib.Seq.{length-take-le}
use Rattle.math_rows.proofs.Tab.{length_tab}
use Rattle.book_field.proofs.Field.{field_says}
use Prim.Native.Nat.{ℕ}
use mathlib.Core.Path.{◌≡◌, ◌∙◌, sym, ap, subst}
use native.Mathlib.Omega.{arith}
use lib.ListN.{length}
use Rattle.book_field.proofs.field_refusal.Goals as goal

pub slice_bounds-strict_refusal-end : goal.slice_bounds-strict_refusal-end
slice_bounds-strict_refusal-end c = let e : length c.first_14-g.result ≡ 14 = ap length c.first_14-g.ensures ∙ length_tab 14 _ in
    let w = c.clip-n.ensures.within in
    sym (length-take-le _ _ (omega arith))

pub slice_bounds-strict_refusal-end-2 : goal.slice_bounds-strict_refusal-end-2
slice_bounds-strict_refusal-end-2 c = let e : length c.first_14-h.result ≡ 14 = ap length c.first_14-h.ensures ∙ length_tab 14 _ in
    let w = c.clip-m.ensures.within in
    sym (length-take-le _ _ (omega arith))

pub returns : goal.returns
returns c = field_says c.args.s.now _ c.clip-n.result c.clip-m.result _ c.first_14-g.result c.first_14-h.result
    c.two-p.ensures.0 (subst (λ (z : ℕ). Clipped z c.clip-n.result) c.two.ensures.0 c.clip-n.ensures)
    (subst (λ (z : ℕ). Clipped z c.clip-m.result) c.two-2.ensures.0 c.clip-m.ensures) c.first_14-g.ensures
    c.first_14-h.ensures c.strict_refusal.ensures
