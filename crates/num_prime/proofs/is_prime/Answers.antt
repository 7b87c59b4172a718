-- `num_prime::is_prime` meets its contract: the source's table and the specification's are one list.
use native.Mathlib.Omega.{arith}
use Rattle.num_prime.specs.Table.{primes}
use Rattle.num_prime.proofs.Table.{tested}
use Rattle.num_prime.proofs.is_prime.Goals as goal

pub returns : goal.returns
unfolding primes
returns c = tested (omega arith) (omega arith) c.undivided.ensures.0 c.undivided.ensures.1
