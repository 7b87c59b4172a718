-- `book_first::first_of` meets its contract.
use native.Mathlib.Omega.{arith}
use Rattle.book_first.proofs.Search.{sold_here}
use Rattle.book_first.proofs.first_of.Goals as goal

pub of_field-requires : goal.of_field-requires
of_field-requires c = sold_here c.requires (omega arith) c.entry_bytes.ensures
