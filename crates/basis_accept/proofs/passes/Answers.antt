-- `basis_accept::passes` meets its contract: one test after the other.
use mathlib.Core.Path.{sym, ◌∙◌}
use mathlib.Core.Bool.{true≢false}
use Rattle.basis_accept.proofs.Accepting.{narrow_in, shaped_by, shaped_from, alone_from, under_from, shaped_in, under_in, passes_as, not_narrow, not_shaped, not_alone}
use Rattle.basis_accept.proofs.passes.Goals as goal
use Rattle.basis_accept.proofs.passes.Goals.{then-rows_fit, else-rows_fit, then-sizes_right, else-sizes_right}

pub rows_fit-requires : goal.rows_fit-requires
rows_fit-requires c = narrow_in c.requires

pub sizes_right-requires : goal.sizes_right-requires
sizes_right-requires c = let s = c.requires in shaped_by s c.prepare-q.ensures _ (shaped_in s c.if-rows_fit.true c.rows_fit.ensures)

pub closed_under_r_and_w-requires : goal.closed_under_r_and_w-requires
closed_under_r_and_w-requires c = let s = c.requires in
    let e = c.prepare-q.ensures in
    elim c.if-sizes_right.branch [
      | then-sizes_right v ↦ elim c.if-rows_fit.branch [
        | then-rows_fit w ↦ under_in s w.if-rows_fit.true c.rows_fit.ensures (sym w.value-is ∙ v.if-sizes_right.true) (shaped_from s e w.sizes_right.ensures) e
        | else-rows_fit w ↦ absurd (true≢false (sym v.if-sizes_right.true ∙ (w.value-is ∙ w.if-rows_fit.false)))
      ]
      | else-sizes_right v ↦ absurd (true≢false (sym c.if-no_common_factor.true ∙ (v.value-is ∙ v.if-sizes_right.false)))
    ]

pub returns-then-no_common_factor : goal.returns-then-no_common_factor
returns-then-no_common_factor c = let s = c.requires in
    let e = c.prepare-q.ensures in
    elim c.if-sizes_right.branch [
      | then-sizes_right v ↦ elim c.if-rows_fit.branch [
        | then-rows_fit w ↦ passes_as s w.if-rows_fit.true c.rows_fit.ensures (sym w.value-is ∙ v.if-sizes_right.true) (shaped_from s e w.sizes_right.ensures)
            (sym v.value-is ∙ c.if-no_common_factor.true) (alone_from s e v.no_common_factor.ensures) _ (under_from s e c.closed_under_r_and_w.ensures)
        | else-rows_fit w ↦ absurd (true≢false (sym v.if-sizes_right.true ∙ (w.value-is ∙ w.if-rows_fit.false)))
      ]
      | else-sizes_right v ↦ absurd (true≢false (sym c.if-no_common_factor.true ∙ (v.value-is ∙ v.if-sizes_right.false)))
    ]

pub returns-else-no_common_factor : goal.returns-else-no_common_factor
returns-else-no_common_factor c = let s = c.requires in
    let e = c.prepare-q.ensures in
    let f = c.if-no_common_factor.false in
    elim c.if-sizes_right.branch [
      | then-sizes_right v ↦ not_alone s f (sym v.value-is ∙ f) (alone_from s e v.no_common_factor.ensures)
      | else-sizes_right v ↦ elim c.if-rows_fit.branch [
        | then-rows_fit w ↦ not_shaped s f (sym w.value-is ∙ v.if-sizes_right.false) (shaped_from s e w.sizes_right.ensures)
        | else-rows_fit w ↦ not_narrow s f w.if-rows_fit.false c.rows_fit.ensures
      ]
    ]
