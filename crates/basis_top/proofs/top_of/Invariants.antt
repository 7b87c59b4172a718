-- `basis_top::top_of` meets its contract: the lemmas of Tops that begin with seek.
use Rattle.basis_top.proofs.Tops.{Seek}
use Rattle.basis_top.proofs.top_of.Given as goal

abbrev pub invariant-loop-j : goal.invariant-loop-j
invariant-loop-j l = Seek l.f l.minus l.a.b l.a.c l.low l.l l.j
