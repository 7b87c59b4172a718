-- `basis_record::stored` meets its contract: `Storing`, j numbers are written.
use Rattle.basis_record.proofs.Store.{Storing}
use Rattle.basis_record.proofs.stored.Given as goal

abbrev pub invariant-loop-j : goal.invariant-loop-j
invariant-loop-j l = Storing l.initial.rows l.i l.a l.rows l.j
