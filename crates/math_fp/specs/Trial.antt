-- Primality as computed tests.
--   no_div p k     none of 2, .., k + 1 divides p
--   primeb p      the definition of `Prime` as a test
--   is_prime p s   a quicker one: p < (s + 2)², and none of 2, .., s + 1 divides p
-- In proofs/Trial: `primeb_sound`, `primeb_make` and `prime`, that these are tests of `Prime p`.
use Rattle.std.specs.Prelude.{Bool, true, ◌&&◌, not, ℕ, zero, suc, ◌+◌, ◌*◌, ◌-◌, ◌%◌, eqb, ltb}

abbrev pub no_div : ℕ → ℕ → Bool
no_div p zero = true
no_div p (suc k) = not (eqb (p % (k + 2)) 0) && no_div p k

unfoldable pub primeb : ℕ → Bool
primeb p = ltb 1 p && no_div p (p - 2)

abbrev pub is_prime : ℕ → ℕ → Bool
is_prime p s = ltb 1 p && ltb p ((s + 2) * (s + 2)) && no_div p s
