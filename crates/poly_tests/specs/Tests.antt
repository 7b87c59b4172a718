-- What the tests of lists decide.
--   below      Below      all numbers are below p
--   constant   Constant   the list is the number k and zeros after it
--   longer     Longer     x is longer than y without the zeros at their ends
use Rattle.std.specs.Prelude.{◌≡◌, List, [], ◌∷◌, ℕ, ◌<◌, length, get_or}
use Rattle.base_lists.specs.Coefficients.{trim}

abbrev pub Below : ℕ → List ℕ → Type 0
Below p l = (i : ℕ) → get_or l i 0 < p

abbrev pub Constant : ℕ → List ℕ → Type 0
Constant k l = (i : ℕ) → get_or l i 0 ≡ get_or (k ∷ []) i 0

abbrev pub Longer : List ℕ → List ℕ → Type 0
Longer x y = length (trim y) < length (trim x)
