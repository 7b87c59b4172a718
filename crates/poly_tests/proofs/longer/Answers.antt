-- `poly_tests::longer` meets its contract.
use Rattle.poly_tests.proofs.Lists.{longer_test}
use Rattle.poly_tests.proofs.longer.Goals as goal

pub returns : goal.returns
returns c = longer_test c.size.ensures c.size-2.ensures
