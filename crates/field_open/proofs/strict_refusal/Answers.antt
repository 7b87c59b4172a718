-- `field_open::strict_refusal` meets its contract: a refusal of a part stops the table, and where a part has none it hands on.
use mathlib.Core.Path.{refl}
use Rattle.std.proofs.lemmas.Result.{err_from_is_err_and}
use Rattle.base_answers.proofs.Faults.{some_number}
use Rattle.field_open.proofs.Accept.{stop_p, stop_lists, pass_lists, shaped}
use Rattle.field_open.proofs.strict_refusal.Goals as goal

pub returns-in_err-check_p : goal.returns-in_err-check_p
returns-in_err-check_p c = let p = err_from_is_err_and c.from_residual.result c.from_residual.ensures.1 in
    rw (p.1, p.2) (stop_p _ _ _ _ (some_number _) c.in_err-check_p.ensures)

pub returns-in_err-check_lists : goal.returns-in_err-check_lists
returns-in_err-check_lists c = let p = err_from_is_err_and c.from_residual-in_err-check_lists.result c.from_residual-in_err-check_lists.ensures.1 in
    rw (p.1, p.2) (stop_lists _ _ _ _ _ refl c.in_ok-check_p.ensures (some_number _) c.in_err-check_lists.ensures)

pub check_factors-requires : goal.check_factors-requires
check_factors-requires c = shaped _ _ _ _ _ refl c.in_ok-check_p.ensures refl c.in_ok-check_lists.ensures

pub returns : goal.returns
returns c = pass_lists _ _ _ _ _ _ refl c.in_ok-check_p.ensures refl c.in_ok-check_lists.ensures c.check_factors.ensures
