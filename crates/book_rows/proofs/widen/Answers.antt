-- `widen` meets its contract. The loop's invariant: so many numbers of the row stand in the slice.
use mathlib.Core.Path.{◌≡◌, sym}
use native.Mathlib.Omega.{arith}
use Rattle.base_lists.proofs.Puts.{written_more}
use Rattle.book_rows.proofs.Facts.{none_put, row_put}
use Rattle.book_rows.proofs.widen.Goals as goal

pub loop-i-init : goal.loop-i-init
loop-i-init c = none_put _ c.args.row.now

pub offset_bounds-row-i : goal.offset_bounds-row-i
offset_bounds-row-i c = let h = c.size-n.ensures.fits in omega arith

pub bounds-row-i : goal.bounds-row-i
bounds-row-i c = let h = c.size-n.ensures.fits in omega arith

pub offset_bounds-out-i : goal.offset_bounds-out-i
offset_bounds-out-i c = let h = c.size-n.ensures.fits in omega arith

pub bounds-out-i : goal.bounds-out-i
bounds-out-i c = let h = c.size-n.ensures.fits in
    let s = c.loop-i.invariant.same in
    omega arith

pub loop-i-preserved : goal.loop-i-preserved
loop-i-preserved c = let h = c.size-n.ensures.fits in
    let l = c.loop-i in
    written_more _ _ _ l.i l.i _ _ (omega arith) c.wide.ensures l.invariant

pub returns : goal.returns
returns c = let e : c.size-n.result ≡ c.loop-i.i = omega arith in
    rw e (row_put _ _ _ _ _ c.size-n.ensures (sym e) c.loop-i.invariant)
