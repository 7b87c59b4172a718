-- `book_bytes::copy_in` meets its contract. The invariant: the bytes before v are written.
use lib.ListN.{take}
use Rattle.base_lists.specs.Pieces.{Written}
use Rattle.book_bytes.proofs.copy_in.Given as goal

abbrev pub invariant-loop-v : goal.invariant-loop-v
invariant-loop-v l = Written l.initial.out l.at (take l.v-index l.s) l.v-index l.o l.out
