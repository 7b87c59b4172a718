-- Refusals 7 and 8.
--   factor_number   7 where G and H are not squarefree, else 8 where they are not coprime, else 0
use Rattle.std.specs.Prelude.{Bool, true, false, ℕ}

abbrev pub factor_number : Bool → Bool → ℕ
factor_number false apart = 7
factor_number true false = 8
factor_number true true = 0
