-- Sums of numbers, and the coefficients of a product of two lists.
--   sum_to f n      f 0 + f 1 + .. + f (n − 1)
--   term_at x y k i   the i-th term of coefficient k of x y: x_i times the coefficient of t^i y at k
-- The laws are in proofs/Product.antt.
use Rattle.std.specs.Prelude.{List, ℕ, zero, suc, ◌+◌, ◌*◌, get_or}
use Rattle.math_rows.specs.Row.{shift_at}

unfoldable pub sum_to : (ℕ → ℕ) → ℕ → ℕ
sum_to f zero = 0
sum_to f (suc n) = sum_to f n + f n

abbrev pub term_at : List ℕ → List ℕ → ℕ → ℕ → ℕ
term_at x y k i = get_or x i 0 * shift_at y i k
