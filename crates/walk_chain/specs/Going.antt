-- The inner walk, over a field that is kept from step to step.
--   WalkOnRowsAsks ..       what it asks: the field (`Keeps` of crate field_series), a record of it, and a budget within its rule
--   Gone ..       what it hands out: the walk closes within the budget, or the budget is spent
--   Going ..      the state of its loop: the record reached after some steps, with the degrees passed, none of them closing
-- The turns of the loop are in proofs/Going.antt.
use Rattle.std.specs.Prelude.{◌⊎◌, List, ℕ, ◌*◌, ◌≤◌}
use Rattle.basis_record.specs.Record.{IsRecord}
use Rattle.field_series.specs.Keeps.{Keeps}
use Rattle.walk_chain.specs.Walk.{Reaches, StaysOpen, Closed, Spent, WalkAnswer}
use Rattle.base_answers.specs.Limits.{most}

module _ (p : ℕ) (g h gh : List ℕ) (dr dw : ℕ) (r w B : List ℕ) (budget : ℕ) where
  pub record WalkOnRowsAsks : Type 0 where
    pub G : List ℕ
    pub H : List ℕ
    pub keeps : Keeps p G H g h gh dr dw r w
    pub is_a_record : IsRecord p G H B
    pub within : budget ≤ most

  abbrev pub Gone : WalkAnswer → Type 0
  Gone o = (G H : List ℕ) → Keeps p G H g h gh dr dw r w → IsRecord p G H B → Closed p G H budget B o ⊎ Spent p G H budget B o

  pub record Going (b : List ℕ) (steps sum : ℕ) : Type 0 where
    pub upto : steps ≤ budget
    pub small : sum ≤ 16 * steps
    pub reaches : (G H : List ℕ) → Keeps p G H g h gh dr dw r w → IsRecord p G H B → Reaches p G H B steps sum b
    pub free : (G H : List ℕ) → Keeps p G H g h gh dr dw r w → IsRecord p G H B → StaysOpen p G H B steps
