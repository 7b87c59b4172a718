-- What the functions that find the next pair ask and hand out. g and h are the coefficients of G and H from the leading one down.
--   Place p i                  a modulus, and an index within the longest list
--   Point p i                  the same with a modulus below 2^16
--   Entry s i x                x is the entry i of a stored list, 0 past its end
--   Rest p n x                 x is the remainder of n by p
--   Two, Four                  a modulus below 2^16, with numbers below it and stored numbers
--   Filled p g h r w n         r and w are equally long, and at the first n places their numbers are below p and obey r² = H·w and r·w = G·H
--   Filling p g h u r w i      `Filled` up to i, and u the inverse of three times the square of r's first number
--   Turned                     what one turn has done
use Rattle.std.specs.Prelude.{◌≡◌, List, ℕ, ◌+◌, ◌*◌, ◌%◌, ◌<◌, ◌≤◌, length}
use Rattle.base_lists.specs.Sums.{entry, prod}
use Rattle.base_answers.specs.Limits.{longest}

pub record Place (p i : ℕ) : Type 0 where
  pub pos : 0 < p
  pub near : i < longest

pub record Point (p i : ℕ) : Type 0 where
  pub pos : 0 < p
  pub small : p < 65536
  pub near : i < longest

pub record Entry (s : List ℕ) (i x : ℕ) : Type 0 where
  pub value : x ≡ entry s i
  pub small : x < 65536

pub record Rest (p n x : ℕ) : Type 0 where
  pub value : x ≡ n % p
  pub below : x < p

pub record Two (p x y : ℕ) : Type 0 where
  pub pos : 0 < p
  pub small : p < 65536
  pub x_below : x < p
  pub y_below : y < p

pub record Four (p u h a x y : ℕ) : Type 0 where
  pub pos : 0 < p
  pub small : p < 65536
  pub u_below : u < p
  pub h_stored : h < 65536
  pub a_stored : a < 65536
  pub x_below : x < p
  pub y_below : y < p

pub record Filled (p : ℕ) (g h r w : List ℕ) (n : ℕ) : Type 0 where
  pub even : length w ≡ length r
  pub r_below : (i : ℕ) → i < n → entry r i < p
  pub w_below : (i : ℕ) → i < n → entry w i < p
  pub square : (i : ℕ) → i < n → prod (entry r) (entry r) i % p ≡ prod (entry h) (entry w) i % p
  pub product : (i : ℕ) → i < n → prod (entry r) (entry w) i % p ≡ prod (entry g) (entry h) i % p

pub record Filling (p : ℕ) (g h : List ℕ) (u : ℕ) (r w : List ℕ) (i : ℕ) : Type 0 where
  pub pos : 0 < p
  pub small : p < 65536
  pub u_below : u < p
  pub unit : (3 * (entry r 0 * entry r 0) * u) % p ≡ 1 % p
  pub some : 0 < i
  pub inside : i < length r
  pub near : length r ≤ longest
  pub done : Filled p g h r w i

pub record Turned (p : ℕ) (g h r w r' w' : List ℕ) (i : ℕ) : Type 0 where
  pub size : length r' ≡ length r
  pub first : entry r' 0 ≡ entry r 0
  pub done : Filled p g h r' w' (i + 1)
