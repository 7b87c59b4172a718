-- `lister_rows::put_rows` meets its contract.
use Rattle.lister_rows.proofs.Parts.{rows_put}
use Rattle.lister_rows.proofs.put_rows.Goals as goal

pub returns : goal.returns
returns c = rows_put c.args.rows.now _ _ _ _ _ _ _ _ _ _ c.requires c.put_row-a.ensures c.put_row-b.ensures c.put_row-c.ensures c.put_byte.ensures
