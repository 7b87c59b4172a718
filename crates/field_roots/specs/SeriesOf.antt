-- The numbers that are the first coefficients of r and w, highest power first.
--   top l i              the entry of a polynomial's list (lowest coefficient first) i places below its leading one; 0 past its end
--   SeriesOf p G H r w   r and w are equally long and their numbers below p; the first of r is a cube root of the leading coefficient of
--                        D = G·H²; and r² = H·w and r·w = G·H, mod p, in each coefficient as far as the lists reach
-- `entry` and `prod` are those of crate base_lists.
-- One list of each length for r and one for w meet this (`series_of_unique` in proofs/Only.antt), and they are the coefficients of the two series
-- (`series_of_begins` in proofs/Only.antt).
use Rattle.std.specs.Prelude.{◌≡◌, List, ℕ, ◌*◌, ◌-◌, ◌%◌, ◌<◌, length}
use Rattle.math_rows.specs.Row.{fall_at}
use Rattle.base_lists.specs.Sums.{entry, prod}

abbrev pub top : List ℕ → ℕ → ℕ
top l = fall_at l (length l - 1)

pub record SeriesOf (p : ℕ) (G H r w : List ℕ) : Type 0 where
  pub even : length w ≡ length r
  pub r_below : (i : ℕ) → i < length r → entry r i < p
  pub w_below : (i : ℕ) → i < length r → entry w i < p
  pub first : 0 < length r → (entry r 0 * entry r 0 * entry r 0) % p ≡ (top G 0 * (top H 0 * top H 0)) % p
  pub square : (i : ℕ) → i < length r → prod (entry r) (entry r) i % p ≡ prod (top H) (entry w) i % p
  pub product : (i : ℕ) → i < length r → prod (entry r) (entry w) i % p ≡ prod (top G) (top H) i % p
