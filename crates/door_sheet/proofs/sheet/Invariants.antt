-- The loop's invariant: the records so far are advanced, the rest are as they were.
use Rattle.door_sheet.proofs.Turns.{Upto}
use Rattle.door_sheet.proofs.sheet.Given as goal

abbrev pub invariant-loop-r : goal.invariant-loop-r
invariant-loop-r l = Upto l.budget l.r-index l.initial.records l.records
