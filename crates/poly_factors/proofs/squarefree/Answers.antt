-- `poly_factors::squarefree` meets its contract: the trimmed length of the greatest common divisor with the derivative.
use Rattle.poly_factors.proofs.Factors.{found_of, square_test}
use Rattle.poly_factors.proofs.squarefree.Goals as goal

pub returns : goal.returns
returns c = let f = found_of c.prepare-q.ensures c.euclid.ensures in square_test _ _ _ _ c.derive.ensures f.common _ _ c.terms.ensures f.size
