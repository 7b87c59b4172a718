-- Numbers mod p.
--   IsModulus p   1 < p < 2^31, prime or not
use Rattle.std.specs.Prelude.{ℕ, ◌<◌}

pub record IsModulus (p : ℕ) : Type 0 where
  pub big : 1 < p
  pub small : p < 2147483648
