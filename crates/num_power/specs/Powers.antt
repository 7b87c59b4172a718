-- Products, powers, inverses and cube roots mod p: what the functions ask and hand out.
--   One p a          a modulus, and a number below it
--   Two p a b        a modulus, and two numbers below it
--   Nonzero p a      a prime modulus, and a number below it that is not 0
--   Rooted p a       a prime modulus with p mod 3 = 2, and a number below it
--   Inverse p a r    r is the number below p with a r = 1 mod p
--   CubeRoot p a r   r is the number below p with r³ = a mod p
-- There is one such number: `inverse_unique` and `cube_root_unique` in proofs/Unique.antt. That the remainders are the operations of the
-- field of p elements is by definition: crate math_fp.
use Rattle.std.specs.Prelude.{◌≡◌, ℕ, ◌*◌, ◌%◌, ◌<◌}
use Rattle.math_fp.specs.Fp.{Prime}
use Rattle.num_mod.specs.Residue.{IsModulus}

pub record One (p a : ℕ) : Type 0 where
  pub modulus : IsModulus p
  pub below : a < p

pub record Two (p a b : ℕ) : Type 0 where
  pub modulus : IsModulus p
  pub left : a < p
  pub right : b < p

pub record Nonzero (p a : ℕ) : Type 0 where
  pub modulus : IsModulus p
  pub prime : Prime p
  pub pos : 0 < a
  pub below : a < p

pub record Rooted (p a : ℕ) : Type 0 where
  pub modulus : IsModulus p
  pub prime : Prime p
  pub kind : p % 3 ≡ 2
  pub below : a < p

pub record Inverse (p a r : ℕ) : Type 0 where
  pub below : r < p
  pub law : (a * r) % p ≡ 1

pub record CubeRoot (p a r : ℕ) : Type 0 where
  pub below : r < p
  pub law : (r * r * r) % p ≡ a
