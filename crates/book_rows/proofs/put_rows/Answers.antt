-- `put_rows` meets its contract.
use mathlib.Core.Path.{refl}
use native.Mathlib.Omega.{arith}
use Rattle.field_open.specs.Padding.{unpad}
use Rattle.book_rows.proofs.Facts.{same_body, row_is, row_count}
use Rattle.book_rows.proofs.put_rows.Goals as goal

pub slice_bounds-write_body-end : goal.slice_bounds-write_body-end
slice_bounds-write_body-end c = row_count _ _ c.requires 0 c.args.c (omega arith) c.widen-n0.ensures

pub slice_bounds-write_body-end-2 : goal.slice_bounds-write_body-end-2
slice_bounds-write_body-end-2 c = row_count _ _ c.requires _ _ refl c.widen-n1.ensures

pub slice_bounds-write_body-end-3 : goal.slice_bounds-write_body-end-3
slice_bounds-write_body-end-3 c = row_count _ _ c.requires _ _ refl c.widen-n2.ensures

pub returns : goal.returns
returns c = let a = c.args in
    same_body a.p (unpad a.g.now) (unpad a.h.now) a.period.0
    (row_is a.c a.rows.now c.requires 0 a.c (omega arith) c.widen-n0.ensures)
    (row_is a.c a.rows.now c.requires _ _ refl c.widen-n1.ensures)
    (row_is a.c a.rows.now c.requires _ _ refl c.widen-n2.ensures)
    c.write_body.ensures
