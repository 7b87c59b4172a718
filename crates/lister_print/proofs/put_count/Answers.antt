-- `lister_print::put_count` meets its contract.
use Rattle.base_lists.proofs.Puts.{put_then}
use Rattle.lister_print.proofs.put_count.Goals as goal

pub returns : goal.returns
returns c = put_then _ _ _ _ _ _ _ _ c.put_byte-to.ensures c.put_number.ensures
