-- `book_check::entry_of` meets its contract.
use Rattle.std.proofs.lemmas.Result.{err_from_is_err_and}
use Rattle.book_check.proofs.Facts.{fault_here, twice_here}
use Rattle.book_check.proofs.entry_of.Goals as goal

pub returns-in_err-judge : goal.returns-in_err-judge
returns-in_err-judge c = let p = err_from_is_err_and c.from_residual.result c.from_residual.ensures.1 in
    rw (p.1, p.2) (fault_here c.args.s.now _ c.args.i c.entry_bytes-b.ensures _ c.in_err-judge.ensures)

pub returns-then-j-i : goal.returns-then-j-i
returns-then-j-i c =
    twice_here c.args.s.now _ c.args.i c.entry_bytes-b.ensures _ c.if-j-i.true c.in_ok-judge.ensures c.earlier-j.ensures
