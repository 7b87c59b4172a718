-- `widen` meets its contract. The loop's invariant: so many numbers of the row stand in the slice.
use lib.ListN.{take}
use Rattle.base_lists.specs.Pieces.{Written}
use Rattle.book_rows.proofs.widen.Given as goal

abbrev pub invariant-loop-i : goal.invariant-loop-i
invariant-loop-i l = Written l.initial.out 0 (take l.i l.row) l.i l.i l.out
