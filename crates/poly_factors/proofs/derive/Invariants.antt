-- `poly_factors::derive` meets its contract: a row of zeros filled up to the length of x, then `derived`.
use Rattle.math_rows.proofs.Tab.{Begun}
use Rattle.poly_factors.proofs.Factors.{coefficient}
use Rattle.poly_factors.proofs.derive.Given as goal

abbrev pub invariant-loop-i : goal.invariant-loop-i
invariant-loop-i l = Begun 32 (coefficient l.p l.x) l.d l.i
