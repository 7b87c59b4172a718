-- The integers mod p.
--   F p        the numbers below p
--   cls p n    the class of a number n: its remainder
--   fops p     sum, product, negative, 0 and 1, each by one remainder
--   Prime p    p is at least 2, and no d with 2 ≤ d < p divides it
--   pow_mod     a power mod p
--   third p    (2 p − 1)/3, the exponent of the cube root where p mod 3 = 2
-- In proofs/: Ring (`ring p`, the laws of a commutative ring for every p > 0), Field (`Fld p` and `field p` at a prime: inverses,
-- no zero divisors), Fermat (x^p = x, and x^(p − 1) = 1 for x ≠ 0), Cube (cubing is a bijection where p mod 3 = 2, 2 and 3 have inverses,
-- z² + z + 1 ≠ 0, the two forms that are 0 only at 0), Value (all of it read at numbers), Trial (computed tests of primality, specs/Trial).
use Rattle.std.specs.Prelude.{◌≢◌, ℕ, ◌+◌, ◌*◌, ◌-◌, ◌/◌, ◌%◌, ◌^◌, ◌<◌}
use Rattle.std.proofs.Common.{mod-lt}
use Rattle.math_ring.specs.Ring.{Ops}

abbrev pub F : ℕ → Type 0
F p = (n : ℕ) × (n < p)

module _ (p : ℕ) (pos : 0 < p) where
  abbrev pub cls : ℕ → F p
  cls n = (n % p, mod-lt n pos)

  abbrev pub fops : Ops (F p)
  fops = record {
    add = λ x y. cls (x.0 + y.0);
    mul = λ x y. cls (x.0 * y.0);
    neg = λ x. cls (p - x.0);
    𝟎 = cls 0;
    𝟏 = cls 1;
  }

pub record Prime (p : ℕ) : Type 0 where
  pub big : 1 < p
  pub only : (d : ℕ) → 1 < d → d < p → p % d ≢ 0

-- It stays shut: at literals the native `^` would compute, and a power of numbers near 2^31 is too long to write out.
unfoldable pub pow_mod : ℕ → ℕ → ℕ → ℕ
pow_mod p a e = (a ^ e) % p

abbrev pub third : ℕ → ℕ
third p = (2 * p - 1) / 3
