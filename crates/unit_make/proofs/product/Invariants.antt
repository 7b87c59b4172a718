-- `product` meets its contract. The loop's invariant is `Stepping`.
use Rattle.unit_make.proofs.Stepping.{Stepping}
use Rattle.unit_make.proofs.product.Given as goal

abbrev pub invariant-loop-i : goal.invariant-loop-i
invariant-loop-i l = Stepping l.f l.c l.initial.b l.steps l.initial.rows l.initial.s l.b l.d l.i l.rows l.s
