-- `book_check::check` meets its contract.
use borrow.Author.Count.{below_more}
use mathlib.Core.Path.{refl}
use native.Mathlib.Omega.{arith}
use Rattle.std.proofs.lemmas.Result.{err_from_is_err_and}
use Rattle.book_check.specs.Answer.{at_entry}
use Rattle.book_check.proofs.check.Goals as goal

pub returns-in_err-entry_of : goal.returns-in_err-entry_of
returns-in_err-entry_of c = let p = err_from_is_err_and c.from_residual.result c.from_residual.ensures.1 in
    rw (p.1, p.2)
    (at_entry (c.if-not-marked.ensures.yes! refl) (c.if-not-listed.ensures.yes! refl) c.loop-i.i (omega (arith, c.bodies-i-end.ensures.0))
    c.loop-i.invariant c.in_err-entry_of.ensures)

pub loop-i-preserved : goal.loop-i-preserved
loop-i-preserved c = below_more _ _ c.loop-i.invariant c.in_ok-entry_of.ensures
