-- `lister_rows::put_row` meets its contract.
use Rattle.lister_rows.proofs.Parts.{row_put}
use Rattle.lister_rows.proofs.put_row.Goals as goal

pub returns : goal.returns
returns c = row_put c.args.row.now _ c.size-n.ensures c.put_byte-to.ensures c.put_list.ensures
