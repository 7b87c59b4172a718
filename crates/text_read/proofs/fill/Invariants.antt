-- `text_read::fill` meets its contract. The invariant: n pieces are taken, and their numbers stand in front of the slice.
use Prim.Native.Nat.{ℕ}
use Rattle.text_put.specs.Print.{comma}
use Rattle.text_number.proofs.Taken.{Numbered}
use Rattle.text_number.proofs.Lists.{Filling}
use Rattle.text_read.proofs.fill.Given as goal

abbrev pub invariant-loop-n : goal.invariant-loop-n
invariant-loop-n l = (n : ℕ) × Numbered goal.iterator-loop-n.next_gives l.n-iterator comma l.s n × Filling l.s l.initial.out l.out n
