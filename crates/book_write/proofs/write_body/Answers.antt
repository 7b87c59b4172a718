-- `book_write::write_body` meets its contract: the lists that G and H stand for are written.
use Rattle.base_lists.proofs.Paddings.{unpadded_length}
use Rattle.book_write.proofs.Fronts.{fronts_told}
use Rattle.book_write.proofs.write_body.Goals as goal

pub slice_bounds-write_strict-end : goal.slice_bounds-write_strict-end
slice_bounds-write_strict-end c = unpadded_length c.unpadded-n.ensures

pub slice_bounds-write_strict-end-2 : goal.slice_bounds-write_strict-end-2
slice_bounds-write_strict-end-2 c = unpadded_length c.unpadded-m.ensures

pub returns : goal.returns
returns c = fronts_told c.unpadded-n.ensures c.unpadded-m.ensures c.write_strict.ensures
