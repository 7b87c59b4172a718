-- `book_put::put_body` meets its contract.
use Rattle.book_put.proofs.Put.{assemble, ends_kept, long_kept}
use Prim.Native.Nat.{suc, ◌*◌, ◌+◌}
use native.Mathlib.Omega.{arith}
use Rattle.book_put.proofs.put_body.Goals as goal

pub put_lines-y-requires : goal.put_lines-y-requires
put_lines-y-requires c = let a = c.args in
    let w = c.requires in
    let l = w.low in
    let r = w.room in
    let t = w.top in
    let k = long_kept a.out.now a.c a.n _ _ _ _ _ _ c.lift-end.ensures c.put_two.ensures in (
      omega arith,
      omega arith,
      λ i u. let e = ends_kept a.out.now a.c a.n _ _ _ _ _ _ c.lift-end.ensures c.put_two.ensures (6 + 8 * suc a.c) i u in
          let f = w.fits i u in omega arith,
    )

pub returns : goal.returns
returns c = let a = c.args in
    assemble a.out.now a.n a.c a.b.now _ _ _ _ _ _ _ _ _ _ c.requires c.lift-end.ensures c.put_two.ensures c.put_lines-y.ensures
    c.put_line.ensures c.copy_in.ensures
