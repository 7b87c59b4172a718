-- What the tests that compare numbers decide.
--   Below p B         every number is below p
--   Ordered           the inequalities of lengths
-- A statement settles the answer of its test: `decides_unique`, in crate base_answers.
use Rattle.std.specs.Prelude.{◌⊎◌, List, ℕ, ◌<◌, ◌≤◌, get_or}

abbrev pub Below : ℕ → List ℕ → Type 0
Below p B = (i : ℕ) → get_or B i 0 < p

-- "deg X(m) > deg X(n); deg Y(m) < 0 ≤ deg Y(n); deg Z(m) < 0 and deg Z(n) < 0", "deg X(m) > 0, and deg X(n) > 0 or deg Y(n) > 0"
pub record Ordered (lu lx ly ln lm a b : ℕ) : Type 0 where
  pub Y_M : lm < lu
  pub Z_M : a < lu
  pub Z_N : b < lu
  pub Y_N : lu ≤ ly
  pub X_M : lu < lx
  pub X_N : ln < lx
  pub N_large : (lu < ly) ⊎ (lu < ln)
