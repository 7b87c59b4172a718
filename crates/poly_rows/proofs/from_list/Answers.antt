-- `poly_rows::from_list` meets its contract: the list is written over the front of a row of zeros.
use Rattle.poly_rows.proofs.Leaf.{listed_front}
use Rattle.poly_rows.proofs.from_list.Goals as goal

pub returns : goal.returns
returns c = listed_front c.args.s.now c.copy_from_slice.new.self c.requires c.copy_from_slice.ensures.after
