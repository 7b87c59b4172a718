-- `book_bytes::put_four` meets its contract.
use mathlib.Core.Path.{◌∙◌}
use Rattle.book_bytes.proofs.Read.{length_le4}
use Rattle.book_bytes.proofs.Write.{four_bytes, bytes_put}
use Rattle.book_bytes.proofs.put_four.Goals as goal

pub returns : goal.returns
returns c = bytes_put (c.to_le_bytes.ensures ∙ four_bytes c.args.v) (length_le4 c.args.v) c.copy_in.ensures
