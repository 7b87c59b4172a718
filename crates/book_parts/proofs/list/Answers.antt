-- `list` meets its contract.
use Rattle.book_parts.proofs.Judged.{list_good, list_bad}
use Rattle.book_parts.proofs.list.Goals as goal

pub returns-in-Ok : goal.returns-in-Ok
returns-in-Ok c = list_good _ c.list_of.result c.in-Ok.ensures c.list_of.ensures c.got_row.ensures

pub returns-in-Err : goal.returns-in-Err
returns-in-Err c = list_bad _ c.in-Err.why c.in-Err.ensures c.reason_row.ensures
