-- What the test of a record answers (refusal 9: "rows are not the scaled reduced basis of a reduced ideal of this field").
--   Seventeen p b    seven rows of 17 numbers below p
--   PassesAsks, Passes   seven rows are the scaled reduced basis of a reduced ideal, whatever accepted G, H the field is opened from
--   Accepts c B o    o is true exactly when the 119 numbers B are a record of the field, whatever accepted G, H it is opened from
-- In proofs/Accepting.antt: `accepts_unique`, two answers that meet it are equal.
use Rattle.std.specs.Prelude.{Bool, List, ℕ}
use Rattle.math_ideals.specs.Basis.{Good}
use Rattle.field_open.specs.Refusal.{Accepted}
use Rattle.basis_record.specs.Record.{setting, IsRecord}
use Rattle.field_series.specs.Keeps.{Kept, Known}
use Rattle.field_series.specs.declared.OpenedField.{OpenedField}
use Rattle.base_answers.specs.Decides.{Decides}
use Rattle.basis_record.specs.Seven.{row_at, rows_of}
use Rattle.basis_record.specs.declared.Seven.{Seven}
use Rattle.poly_rows.specs.Leaf.{Short}

pub record Seventeen (p : ℕ) (b : Seven) : Type 0 where
  pub each : (i : ℕ) → Short p (row_at b i) 17

pub record PassesAsks (c : OpenedField) (b : Seven) : Type 0 where
  pub known : Known c
  pub rows : Seventeen c.field.p b

abbrev pub Passes : OpenedField → Seven → Bool → Type 0
Passes c b o = (G H : List ℕ) (A : Accepted c.field.p G H) → Kept c G H → Decides o (Good (setting A) (rows_of A b))

abbrev pub Accepts : OpenedField → List ℕ → Bool → Type 0
Accepts c B o = (G H : List ℕ) → Kept c G H → Decides o (IsRecord c.field.p G H B)
