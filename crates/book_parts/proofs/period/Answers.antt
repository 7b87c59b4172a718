-- `period` meets its contract.
use mathlib.Core.Path.{refl}
use Rattle.book_parts.specs.Parts.{fault}
use Rattle.book_parts.proofs.Judged.{number_good}
use Rattle.book_parts.proofs.period.Goals as goal

pub returns-in-Ok : goal.returns-in-Ok
returns-in-Ok c = record { said = _; tells = number_good _ c.in-Ok.ensures c.period_of.ensures; written = refl }

pub returns-in-Err : goal.returns-in-Err
returns-in-Err c = record { said = _; tells = fault c.in-Err.ensures; written = c.reason_row.ensures }
