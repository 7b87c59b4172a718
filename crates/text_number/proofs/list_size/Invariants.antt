-- `text_number::list_size` meets its contract. The invariant: the n pieces before `part` are numerals.
use Rattle.text_number.proofs.Lists.{Numerals}
use Rattle.text_number.proofs.list_size.Given as goal

abbrev pub invariant-loop-part : goal.invariant-loop-part
invariant-loop-part l = Numerals goal.iterator-loop-part.next_gives l.part-iterator l.s l.n
