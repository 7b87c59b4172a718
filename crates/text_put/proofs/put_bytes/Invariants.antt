-- `text_put::put_bytes` meets its contract. The invariant: the bytes before b are put.
use lib.ListN.{take}
use Rattle.base_lists.specs.Pieces.{Put}
use Rattle.text_put.proofs.put_bytes.Given as goal

abbrev pub invariant-loop-b : goal.invariant-loop-b
invariant-loop-b l = Put l.initial.out l.at (take l.b-index l.s) l.to l.out
