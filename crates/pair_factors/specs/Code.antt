-- What `factors` asks; the factors x and y are `Law` of crate pair_laws, whose `law_unique` says that there is one pair of them.
--   Kind p   a prime with p mod 3 = 2 whose remainders are stored in 16 bits
--   Lead p a   a number from 1 to p − 1: a leading coefficient
use Rattle.std.specs.Prelude.{◌≡◌, ℕ, ◌%◌, ◌<◌}
use Rattle.math_fp.specs.Fp.{Prime}

pub record Kind (p : ℕ) : Type 0 where
  pub prime : Prime p
  pub kind : p % 3 ≡ 2
  pub small : p < 65536

pub record Lead (p a : ℕ) : Type 0 where
  pub some : 0 < a
  pub below : a < p

pub record FactorsAsks (p g h g' h' : ℕ) : Type 0 where
  pub modulus : Kind p
  pub g_lead : Lead p g
  pub h_lead : Lead p h
  pub g'_lead : Lead p g'
  pub h'_lead : Lead p h'
