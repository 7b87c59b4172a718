-- `book_bytes::put_list` meets its contract.
use Prim.Native.Nat.{◌*◌}
use lib.ListN.{take}
use Rattle.base_lists.specs.Pieces.{Written}
use Rattle.book_bytes.specs.Bytes.{words}
use Rattle.book_bytes.proofs.put_list.Given as goal

abbrev pub invariant-loop-v : goal.invariant-loop-v
invariant-loop-v l = Written l.initial.out l.at (words (take l.v-index l.l)) (2 * l.v-index) l.o l.out
