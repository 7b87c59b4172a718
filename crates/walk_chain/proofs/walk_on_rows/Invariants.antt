-- `walk_on_rows` meets its contract. The loop's invariant is `Going`.
use Rattle.walk_chain.specs.Going.{Going}
use Rattle.walk_chain.proofs.walk_on_rows.Given as goal

abbrev pub invariant-loop-steps : goal.invariant-loop-steps
invariant-loop-steps l = Going l.p l.g l.h l.gh l.dr l.dw l.r l.w l.initial.b l.budget l.b l.steps l.sum
