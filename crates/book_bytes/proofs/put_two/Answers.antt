-- `book_bytes::put_two` meets its contract.
use mathlib.Core.Path.{◌∙◌}
use Rattle.book_bytes.proofs.Read.{length_le2}
use Rattle.book_bytes.proofs.Write.{two_bytes, bytes_put}
use Rattle.book_bytes.proofs.put_two.Goals as goal

pub returns : goal.returns
returns c = bytes_put (c.to_le_bytes.ensures ∙ two_bytes c.args.v) (length_le2 c.args.v) c.copy_in.ensures
