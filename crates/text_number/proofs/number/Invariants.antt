-- `text_number::number` meets its contract.
use Rattle.text_number.proofs.Numbers.{Sofar}
use Rattle.text_number.proofs.number.Given as goal

abbrev pub invariant-loop-b : goal.invariant-loop-b
invariant-loop-b l = Sofar l.s l.v l.b-index
