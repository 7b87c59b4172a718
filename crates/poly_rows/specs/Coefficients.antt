-- One coefficient of a product: the inner contracts of `mul` and of the quotient.
--   folded, terms         Part: a run of the terms of coefficient k, up to a multiple of p
--   product_coefficient   the remainder of the sum of the terms of coefficient k
use Rattle.std.specs.Prelude.{◌≡◌, List, ℕ, ◌+◌, ◌%◌, ◌<◌, ◌≤◌}
use Rattle.num_mod.specs.Residue.{IsModulus}
use Rattle.num_mod.specs.Prepared.{Prepared}
use Rattle.num_mod.specs.declared.Modulus.{Modulus}
use Rattle.math_rows.specs.Row.{Row, Size}
use Rattle.math_rows.specs.Sum.{sum_to, term_at}

pub record PartAsks (p : ℕ) (x y : List ℕ) (from to k : ℕ) : Type 0 where
  pub modulus : IsModulus p
  pub hx : Row p x
  pub hy : Row p y
  pub order : from ≤ to
  pub last : to ≤ 32
  pub inside : to ≤ k + 1
  pub reach : k < 32 + from

pub record Part (p : ℕ) (x y : List ℕ) (from to k r : ℕ) : Type 0 where
  pub low : r < 9223372036854775808
  pub law : (sum_to (term_at x y k) from + r) % p ≡ sum_to (term_at x y k) to % p

pub record ProductCoefficientAsks (q : Modulus) (x : List ℕ) (n : ℕ) (y : List ℕ) (m k : ℕ) : Type 0 where
  pub modulus : Prepared q
  pub hx : Row q.p x
  pub hy : Row q.p y
  pub sx : Size x n
  pub sy : Size y m
  pub inside : k + 1 < n + m
