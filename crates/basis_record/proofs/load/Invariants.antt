-- `basis_record::load` meets its contract: `Loading`, j numbers are read.
use Rattle.basis_record.proofs.Store.{Loading}
use Rattle.basis_record.proofs.load.Given as goal

abbrev pub invariant-loop-j : goal.invariant-loop-j
invariant-loop-j l = Loading l.rows l.i l.r l.j
