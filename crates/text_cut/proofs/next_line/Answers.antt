-- `text_cut::next_line` meets its contract.
use native.Mathlib.Omega.{arith}
use Rattle.text_put.specs.Print.{newline}
use Rattle.base_lists.proofs.Puts.{placed_same}
use Rattle.text_cut.proofs.Cuts.{end_le}
use Rattle.text_cut.proofs.Steps.{carried_up_to, cut_nothing, cut_at}
use Rattle.text_cut.proofs.next_line.Goals as goal

pub returns-then-s-at : goal.returns-then-s-at
returns-then-s-at c = cut_nothing c.args.kept.now c.args.n c.args.s.now c.args.at c.if-s-at.true

pub slice_bounds-carry-count : goal.slice_bounds-carry-count
slice_bounds-carry-count c = let h = c.find-e.ensures in omega arith

pub slice_bounds-carry-end : goal.slice_bounds-carry-end
slice_bounds-carry-end c = end_le newline c.args.s.now c.args.at c.find-e.result (omega arith) c.find-e.ensures

pub returns-then-s-e : goal.returns-then-s-e
returns-then-s-e c = let a = c.args in
    (carried_up_to a.kept.now a.n a.s.now a.at c.find-e.result _ _ c.find-e.ensures c.carry-m.ensures, (let h = c.find-e.ensures in omega arith))

pub returns-then-m-kept : goal.returns-then-m-kept
returns-then-m-kept c = let l = placed_same c.carry-m.ensures in
    (cut_at c.args.kept.now c.args.n c.args.s.now c.args.at c.find-e.result _ _ c.find-e.ensures c.carry-m.ensures, omega arith, omega arith)

pub returns-else-m-kept : goal.returns-else-m-kept
returns-else-m-kept c = let l = placed_same c.carry-m.ensures in (
  c.carry-m.result,
  cut_at c.args.kept.now c.args.n c.args.s.now c.args.at c.find-e.result _ _ c.find-e.ensures
      c.carry-m.ensures,
  omega arith,
  omega arith,
)
