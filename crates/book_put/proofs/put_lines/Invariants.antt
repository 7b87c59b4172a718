-- `book_put::put_lines` meets its contract.
use Rattle.base_lists.specs.Pieces.{Written}
use Rattle.book_put.specs.Code.{line_end, lines}
use Prim.Native.Nat.{suc, ◌*◌, ◌+◌}
use mathlib.Core.Path.{◌≡◌}
use Rattle.book_put.proofs.put_lines.Given as goal

abbrev pub invariant-loop-i : goal.invariant-loop-i
invariant-loop-i l = (l.at ≡ line_end l.initial.out (6 + 8 * suc l.c) l.i) × Written l.initial.out 6 (lines l.initial.out (6 + 8 * suc l.c) l.i) (8 * l.i) l.o l.out
