-- `book_add::add` meets its contract.
use lib.Seq.{length-take-le}
use Rattle.std.proofs.lemmas.Result.{err_from_is_err_and}
use Rattle.book_add.proofs.Adding.{no_of, room_of, added_of}
use mathlib.Core.Path.{sym}
use native.Mathlib.Omega.{arith}
use borrow.Author.Rules.{rules}
use Rattle.book_add.proofs.add.Goals as goal

pub slice_bounds-may_add-end-2 : goal.slice_bounds-may_add-end-2
slice_bounds-may_add-end-2 c = sym (length-take-le _ _ (omega arith))

pub returns-in_err-c : goal.returns-in_err-c
returns-in_err-c c = let p = err_from_is_err_and c.from_residual.result c.from_residual.ensures.1 in
    rw (p.1, p.2) (no_of c.args.out.now c.args.n c.args.b.now (omega arith) _ c.in_err-c.ensures)

pub put_body-requires : goal.put_body-requires
put_body-requires c = let a = c.args in
    room_of a.out.now a.n a.b.now (omega arith) _ c.in_ok-c.ensures (search rules) (λ i. omega (arith, c.type_inv.b i)) (omega arith) (omega arith)

pub returns : goal.returns
returns c = let a = c.args in
    added_of a.out.now a.n a.b.now (omega arith) _ c.in_ok-c.ensures (search rules) (λ i. omega (arith, c.type_inv.b i)) (omega arith) (omega arith)
    _ _ c.put_body.ensures.0 c.put_body.ensures.1
