-- `write_rows` meets its contract.
use mathlib.Core.Path.{ap, ◌∙◌}
use Rattle.base_answers.proofs.Faults.{some_number}
use Rattle.base_answers.proofs.Limits as limits
use Rattle.book_numbers.specs.Numbers.{numbers}
use Rattle.book_numbers.proofs.Same.{writing_same}
use Rattle.book_rows.specs.Rows.{body}
use Rattle.book_rows.proofs.Facts.{refused_rows, unfit_rows}
use Rattle.book_rows.proofs.write_rows.Goals as goal

pub returns-in-Ok : goal.returns-in-Ok
returns-in-Ok c = unfit_rows c.args.rows.now c.no_six_rows.ensures c.if-no_six_rows.true c.in-Ok.ensures

pub returns-in-Err : goal.returns-in-Err
returns-in-Err c =
    rw c.from.ensures (refused_rows c.args.rows.now c.no_six_rows.ensures c.if-no_six_rows.true (some_number _) c.in-Err.ensures)

pub put_rows-w-requires : goal.put_rows-w-requires
put_rows-w-requires c = limits.six_at _ (limits.six_of c.no_six_rows.ensures c.if-no_six_rows.false)

pub returns : goal.returns
returns c = record {
  said = _;
  tells = body _ (limits.six_at _ (limits.six_of c.no_six_rows.ensures c.if-no_six_rows.false)) c.put_rows-w.ensures;
  written = c.wrote_row.ensures ∙ ap numbers (writing_same c.put_rows-w.result _ c.map_err.ensures.cases);
}
