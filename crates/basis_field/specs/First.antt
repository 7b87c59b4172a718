-- The record of the order.
--   IsFirst p G H B    B is the record of the order O of the field p, G, H
--   First c B          the same, whatever accepted G, H the field c is opened from
-- `first_unique` in proofs/First.antt: the order has one record.
use Rattle.std.specs.Prelude.{List, ℕ}
use Rattle.field_open.specs.Refusal.{Accepted}
use Rattle.math_ideals.specs.Next.{Start}
use Rattle.basis_record.specs.Record.{setting, basis_of, IsRecord}
use Rattle.field_series.specs.Keeps.{Kept}
use Rattle.field_series.specs.declared.OpenedField.{OpenedField}

pub record IsFirst (p : ℕ) (G H B : List ℕ) : Type 0 where
  pub is_a_record : IsRecord p G H B
  pub start : (A : Accepted p G H) → Start (setting A) (basis_of A B)

abbrev pub First : OpenedField → List ℕ → Type 0
First c B = (G H : List ℕ) → Kept c G H → IsFirst c.field.p G H B
