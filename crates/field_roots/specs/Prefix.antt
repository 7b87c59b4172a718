-- Polynomial parts of b·r ± c·w from a prefix of the two series.
--   enough             how many terms of each series are enough
--   part_at b s d j     the coefficient at t^j of b times a series of degree d that begins with the numbers s: Σ b_i · s_(d + i − j), i ≤ 16
--   plus_part, minus_part   the rows of b·r + c·w and b·r − c·w so made, mod p
-- `prefix_is_enough` in proofs/Prefix.antt: for all b, c of degree at most 16 these are the polynomial parts of the true series.
use Rattle.std.specs.Prelude.{List, ℕ, ◌+◌, ◌*◌, ◌-◌, ◌%◌}
use Rattle.base_lists.specs.Sums.{entry}
use Rattle.math_rows.specs.Row.{tab, fall_at}
use Rattle.math_rows.specs.Sum.{sum_to}

abbrev pub enough : ℕ
enough = 26

unfoldable pub part_at : List ℕ → List ℕ → ℕ → ℕ → ℕ
part_at b s d j = sum_to (λ i. entry b i * fall_at s (d + i) j) 17

module _ (p : ℕ) (b c r w : List ℕ) (dr dw : ℕ) where
  unfoldable pub plus_part : List ℕ
  plus_part = tab 32 (λ j. (part_at b r dr j + part_at c w dw j) % p)

  unfoldable pub minus_part : List ℕ
  minus_part = tab 32 (λ j. (part_at b r dr j + (p - part_at c w dw j % p)) % p)
