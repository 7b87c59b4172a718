-- One step of the chain, on records.
--   Steps p G H B o   o is the step from the record B: the record of the ideal divided by m, and the degree of m
--   Advanced          what `step_on_rows` hands out, whatever accepted G, H the field is opened from
-- The step is settled: `steps_unique` in proofs/Once.antt.
use Rattle.std.specs.Prelude.{List, ℕ}
use Rattle.field_open.specs.Refusal.{Accepted}
use Rattle.math_ideals.specs.Next.{Next}
use Rattle.math_chain.specs.Chain.{Degree}
use Rattle.basis_record.specs.Record.{setting, basis_of, IsRecord}
use Rattle.field_series.specs.Keeps.{Keeps}
use Rattle.step_next.specs.declared.StepTaken.{StepTaken}

-- "From a reduced ideal with basis 1, m, n to that ideal divided by m, in its scaled reduced basis; also the degree of m"
pub record Steps (p : ℕ) (G H B : List ℕ) (o : StepTaken) : Type 0 where
  pub is_a_record : IsRecord p G H o.basis
  pub next : (A : Accepted p G H) → Next (setting A) (basis_of A B) (basis_of A o.basis)
  pub degree : (A : Accepted p G H) → Degree (setting A) (basis_of A B) o.degree

abbrev pub Advanced : (p : ℕ) (g h gh : List ℕ) (dr dw : ℕ) (r w B : List ℕ) → StepTaken → Type 0
Advanced p g h gh dr dw r w B o = (G H : List ℕ) → Keeps p G H g h gh dr dw r w → IsRecord p G H B → Steps p G H B o
