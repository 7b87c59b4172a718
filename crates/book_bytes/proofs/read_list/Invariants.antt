-- `book_bytes::read_list` meets its contract.
use Rattle.base_lists.specs.Pieces.{Written}
use Rattle.book_bytes.specs.Bytes.{list_at}
use lib.ListN.{take}
use Rattle.book_bytes.proofs.read_list.Given as goal

abbrev pub invariant-loop-i : goal.invariant-loop-i
invariant-loop-i l = Written l.initial.out 0 (take l.i (list_at l.head l.from l.s l.k)) l.i l.i l.out
