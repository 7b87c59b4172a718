-- `text_put::put_all` meets its contract. The invariant: the numbers before x are put behind the first, a comma before each.
use mathlib.Core.List.{map}
use lib.ListN.{take}
use Rattle.base_lists.specs.Pieces.{Put}
use Rattle.text_put.proofs.Texts.{tail_text}
use Rattle.text_put.proofs.put_all.Given as goal

abbrev pub invariant-loop-x : goal.invariant-loop-x
invariant-loop-x g l = Put l.initial.out l.initial.to (tail_text (map g.T.Entry.number (take l.x-index l.others))) l.to l.out
