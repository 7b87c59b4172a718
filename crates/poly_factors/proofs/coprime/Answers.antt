-- `poly_factors::coprime` meets its contract: the trimmed length of the greatest common divisor.
use Rattle.poly_factors.proofs.Factors.{found_of, coprime_test}
use Rattle.poly_factors.proofs.coprime.Goals as goal

pub returns : goal.returns
returns c = let f = found_of c.prepare-q.ensures c.euclid.ensures in coprime_test _ _ _ _ f.common _ _ c.terms.ensures f.size
