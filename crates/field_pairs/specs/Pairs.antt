-- What the loop that fills the two lists asks and hands out. g and h are the coefficients of G and H from the leading one down.
--   Filler p g h c u r w       two lists of equal length to be filled from the cube root c; u is the inverse of 3 c²
--   Made                       what the whole loop has done
use Rattle.std.specs.Prelude.{◌≡◌, List, ℕ, ◌*◌, ◌%◌, ◌<◌, ◌≤◌, length}
use Rattle.base_lists.specs.Sums.{entry}
use Rattle.base_answers.specs.Limits.{longest}
use Rattle.field_next.specs.Next.{Filled}

pub record Filler (p : ℕ) (g h : List ℕ) (c u : ℕ) (r w : List ℕ) : Type 0 where
  pub pos : 0 < p
  pub small : p < 65536
  pub c_below : c < p
  pub u_below : u < p
  pub unit : (3 * (c * c) * u) % p ≡ 1 % p
  pub cube : (c * c * c) % p ≡ (entry g 0 * (entry h 0 * entry h 0)) % p
  pub even : length w ≡ length r
  pub near : length r ≤ longest

pub record Made (p : ℕ) (g h : List ℕ) (c : ℕ) (r r' w' : List ℕ) : Type 0 where
  pub size : length r' ≡ length r
  pub first : 0 < length r → entry r' 0 ≡ c
  pub done : Filled p g h r' w' (length r)
