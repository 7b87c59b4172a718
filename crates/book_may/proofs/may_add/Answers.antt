-- `book_may::may_add` meets its contract.
use mathlib.Core.Path.{refl}
use native.Mathlib.Omega.{arith}
use Rattle.std.proofs.lemmas.Result.{err_from_is_err_and}
use Rattle.book_check.proofs.Asking.{yes_of}
use Rattle.book_may.proofs.May.{finished, has_of, may_of, book_no, body_no}
use Rattle.book_may.proofs.may_add.Goals as goal

pub returns-in_err-check : goal.returns-in_err-check
returns-in_err-check c = let p = err_from_is_err_and c.from_residual.result c.from_residual.ensures.1 in
    rw (p.1, p.2) (book_no c.args.s.now c.args.b.now _ c.in_err-check.ensures)

pub returns-in_err-judge : goal.returns-in_err-judge
returns-in_err-judge c = let p = err_from_is_err_and c.from_residual-in_err-judge.result c.from_residual-in_err-judge.ensures.1 in
    rw (p.1, p.2)
    (body_no c.args.s.now c.args.b.now _ _ c.bodies-c.ensures.0 (yes_of _ c.in_ok-check.ensures) c.in_err-judge.ensures)

pub earlier-requires : goal.earlier-requires
earlier-requires c = let a = yes_of _ c.in_ok-check.ensures in
    let n = c.bodies-c.ensures.0 in
    record {
      marked = a.marked;
      listed = a.listed;
      within = omega arith;
      own = c.in_ok-judge.ensures.1;
      each = λ j h. (a.good j (omega arith)).field;
    }

pub returns-then-earlier-c : goal.returns-then-earlier-c
returns-then-earlier-c c = let a = c.args in
    has_of a.s.now a.b.now _ _ c.bodies-c.ensures.0 c.if-earlier-c.true (yes_of _ c.in_ok-check.ensures) (finished a.b.now c.in_ok-judge.ensures)
    c.earlier.ensures

pub returns : goal.returns
returns c = let a = c.args in
    may_of a.s.now a.b.now _ _ c.bodies-c.ensures.0 c.if-earlier-c.false (yes_of _ c.in_ok-check.ensures)
    (finished a.b.now c.in_ok-judge.ensures) c.earlier.ensures
