-- The prime test.
--   largest         65,535, the largest p that the test is for
--   primes          the 54 primes below 256, the source's table
--   PrimeTest p r   r is the answer of the test at p: yes exactly for the primes p ≤ 65,535
-- In proofs/Table.antt: `complete`, the one computed test that the table holds exactly the primes below 256; `entry_prime` and
-- `prime_entry`, the same at each entry and at each prime; `passed_all` and `divided`, the two answers of the test.
use Rattle.std.specs.Prelude.{◌≡◌, Bool, true, false, List, [], ◌∷◌, ℕ, ◌≤◌}
use Rattle.math_fp.specs.Fp.{Prime}

abbrev pub largest : ℕ
largest = 65535

unfoldable pub primes : List ℕ
primes =
    2 ∷ 3 ∷ 5 ∷ 7 ∷ 11 ∷ 13 ∷ 17 ∷ 19 ∷ 23 ∷ 29 ∷ 31 ∷ 37 ∷ 41 ∷ 43 ∷ 47 ∷ 53 ∷ 59 ∷ 61 ∷ 67 ∷ 71 ∷ 73 ∷ 79 ∷ 83 ∷
    89 ∷ 97 ∷ 101 ∷ 103 ∷ 107 ∷ 109 ∷ 113 ∷ 127 ∷ 131 ∷ 137 ∷ 139 ∷ 149 ∷ 151 ∷ 157 ∷ 163 ∷ 167 ∷ 173 ∷ 179 ∷ 181 ∷
    191 ∷ 193 ∷ 197 ∷ 199 ∷ 211 ∷ 223 ∷ 227 ∷ 229 ∷ 233 ∷ 239 ∷ 241 ∷ 251 ∷ []

pub record PrimeTest (p : ℕ) (r : Bool) : Type 0 where
  pub yes! : r ≡ true → Prime p × (p ≤ largest)
  pub no! : r ≡ false → Prime p → p ≤ largest → ⊥
