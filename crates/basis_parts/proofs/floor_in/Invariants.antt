-- `basis_parts::floor_in` meets its contract: a row swept from the front.
use Rattle.basis_parts.specs.Leaves.{part_at}
use Rattle.basis_parts.proofs.Laid.{Swept}
use Rattle.basis_parts.proofs.floor_in.Given as goal

abbrev pub invariant-loop-j : goal.invariant-loop-j
invariant-loop-j l = Swept l.f.m.p l.top (λ pr i. part_at l.f pr l.minus l.b l.c l.top i) l.initial.z l.z l.j
