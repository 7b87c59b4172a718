-- `basis_shape::shape` meets its contract: lengths are settled.
use Rattle.basis_shape.proofs.Lengths.{shape_from, not_ordered}
use Rattle.basis_shape.proofs.shape.Goals as goal

pub returns-then-ordered : goal.returns-then-ordered
returns-then-ordered c = shape_from c.size-lu.ensures c.size-lx.ensures c.size-ly.ensures c.size-ln.ensures c.size-lm.ensures c.size-a.ensures
    c.size-b.ensures (c.ordered.ensures.yes! c.if-ordered.true) c.units.ensures

pub returns-else-ordered : goal.returns-else-ordered
returns-else-ordered c = record {
  yes! = λ e. absurd (cc);
  no! = λ e. not_ordered c.size-lu.ensures c.size-lx.ensures c.size-ly.ensures c.size-ln.ensures c.size-lm.ensures c.size-a.ensures c.size-b.ensures (c.ordered.ensures.no! e);
}
