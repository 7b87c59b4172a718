-- What the parts of the opening hand out.
--   ListLength p l n   n is the number of coefficients of l, or 0 where l is no list of coefficients
--   Shaped p G H       what the faults 1 and 3 leave: p is prime and not too large, G and H are lists of coefficients
use Rattle.std.specs.Prelude.{List, ℕ, ◌≤◌}
use Rattle.base_lists.specs.Coefficients as lists
use Rattle.math_fp.specs.Fp.{Prime}
use Rattle.num_prime.specs.Table.{largest}
use Rattle.field_open.specs.Refusal.{longest, Degree}

abbrev pub ListLength : ℕ → List ℕ → ℕ → Type 0
ListLength = lists.ListLength longest

pub record Shaped (p : ℕ) (G H : List ℕ) : Type 0 where
  pub prime : Prime p
  pub high : p ≤ largest
  pub deg_g : ℕ
  pub deg_h : ℕ
  pub list_g : Degree p G deg_g
  pub list_h : Degree p H deg_h
