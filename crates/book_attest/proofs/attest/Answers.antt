-- `book_attest::attest` meets its contract.
use Rattle.std.proofs.lemmas.Result.{err_from_is_err_and}
use Rattle.book_check.proofs.Asking.{there_of, ready_of}
use Rattle.book_attest.proofs.Answers.{finished_part, attested, attest_refused}
use Rattle.book_attest.proofs.attest.Goals as goal

pub returns-in_err-ask_answer : goal.returns-in_err-ask_answer
returns-in_err-ask_answer c = let p = err_from_is_err_and c.from_residual.result c.from_residual.ensures.1 in
    rw (p.1, p.2) (attest_refused c.args.s.now c.args.i _ c.in_err-ask_answer.ensures)

pub entry_bytes-requires : goal.entry_bytes-requires
entry_bytes-requires c = ready_of _ _ (there_of _ c.in_ok-ask_answer.ensures)

pub constant_norm-requires : goal.constant_norm-requires
constant_norm-requires c = finished_part c.args.s.now c.args.i _ c.entry_bytes.ensures (there_of _ c.in_ok-ask_answer.ensures)

pub returns : goal.returns
returns c = attested c.args.s.now c.args.i c.constant_norm.result c.entry_bytes.ensures (there_of _ c.in_ok-ask_answer.ensures) c.constant_norm.ensures
