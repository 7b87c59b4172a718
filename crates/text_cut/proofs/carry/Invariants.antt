-- `text_cut::carry` meets its contract. The invariant: the bytes before b are carried.
use lib.ListN.{take}
use Rattle.text_cut.specs.Tells.{Carried}
use Rattle.text_cut.proofs.carry.Given as goal

abbrev pub invariant-loop-b : goal.invariant-loop-b
invariant-loop-b l = Carried l.initial.kept l.n (take l.b-index l.s) l.m l.kept
