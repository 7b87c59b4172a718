-- `poly_cross::shifted` meets its contract.
use mathlib.Core.Path.{sym}
use native.Mathlib.Omega.{arith}
use Rattle.math_rows.proofs.Tab.{shift_low, shift_high}
use Rattle.poly_cross.proofs.shifted.Goals as goal

pub returns-then-i-k : goal.returns-then-i-k
returns-then-i-k c = sym (shift_low _ _ _ (omega arith))

pub returns-else-i-k : goal.returns-else-i-k
returns-else-i-k c = sym (shift_high _ _ _ (omega arith))
