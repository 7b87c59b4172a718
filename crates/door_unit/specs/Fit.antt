-- The rule of the convention's number, the lengths and the budget.
--   Rule i n m b      i names a convention, two slices of one length n = m, six equal rows of at most 4,096 numbers, and a budget b of at most
--                     1,000,000
--   Unfit i n m b r   r says whether they are out of it
use Rattle.std.specs.Prelude.{◌≡◌, Bool, true, false, ℕ, ◌≤◌}
use Rattle.base_answers.specs.Limits.{most, SixRows}
use Rattle.math_chain.specs.Convention.{Convention, number}

abbrev pub Rule : ℕ → ℕ → ℕ → ℕ → Type 0
Rule i n m b = (k : Convention) × (number k ≡ i) × (m ≡ n) × SixRows n × (b ≤ most)

abbrev pub Unfit : ℕ → ℕ → ℕ → ℕ → Bool → Type 0
Unfit i n m b true = Rule i n m b → ⊥
Unfit i n m b false = Rule i n m b
