-- `book_check::ask_answer` meets its contract.
use Rattle.std.proofs.lemmas.Result.{err_from_is_err_and}
use Rattle.book_check.proofs.Asking.{ask_refused}
use Rattle.book_check.proofs.ask_answer.Goals as goal

pub returns-in_err-check : goal.returns-in_err-check
returns-in_err-check c = let p = err_from_is_err_and c.from_residual.result c.from_residual.ensures.1 in
    rw (p.1, p.2) (ask_refused c.args.s.now c.args.i _ c.in_err-check.ensures)
