-- `poly_quotient::quotient` meets its contract: each turn is `down_more` of proofs/Division.antt.
use Rattle.poly_quotient.proofs.Division.{Down}
use Rattle.poly_quotient.proofs.quotient.Given as goal

abbrev pub invariant-loop-k : goal.invariant-loop-k
invariant-loop-k l = Down l.p l.a l.x l.b l.y l.c l.z l.u l.initial.q l.q l.k
