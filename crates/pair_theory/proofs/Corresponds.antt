-- `corresponds`: the orders of two accepted pairs of one field correspond.
use mathlib.Core.Path.{subst}
use mathlib.Core.List.{List}
use Prim.Native.Nat.{ℕ}
use Rattle.math_fp.proofs.Field.{prime_unique}
use Rattle.math_valued.specs.Val.{Valued}
use Rattle.math_rows.specs.Made.{reading}
use Rattle.field_open.specs.Refusal.{Accepted}
use Rattle.basis_record.specs.Setting.{roots, setting}
use Rattle.pair_laws.specs.OneField.{OneField}
use Rattle.math_ideals.specs.Setting.{at}
use Rattle.math_carry.specs.Corresponds.{Corresponds}
use Rattle.math_carry.proofs.Corresponds.{carried}
use Rattle.pair_theory.proofs.OneField.{meets}

-- both settings at the first pair's proof that p is prime; then the second at its own
pub corresponds : {p : ℕ} {G H G' H' : List ℕ} (A : Accepted p G H) (A' : Accepted p G' H')
    → OneField p G H G' H' → Corresponds (setting A) (setting A')
corresponds {p} A A' o =
    subst (λ pr. Corresponds (setting A) (at (roots A' pr))) (prime_unique A.prime A'.prime)
    (carried (reading p A.prime).𝓥 (meets A A' o A.prime).carries)
