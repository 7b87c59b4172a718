-- Whether six rows hold a unit of positive degree with its inverse (request E6).
--   is_unit   IsUnitAsks    f holds a field, and there are six rows of c numbers, any numbers
--             IsUnitGives   the answer is whether the rows are E0, E1, E2, F0, F1, F2 of a unit of positive degree and its inverse
-- `HoldsUnit` is that of crate unit_finish.
use Rattle.std.specs.Prelude.{◌≡◌, Bool, List, ℕ, ◌*◌, ◌≤◌, length}
use Rattle.base_answers.specs.Decides.{Decides}
use Rattle.base_answers.specs.Limits.{longest}
use Rattle.field_series.specs.Keeps.{Kept, Known}
use Rattle.field_series.specs.declared.OpenedField.{OpenedField}
use Rattle.unit_finish.specs.Rows.{HoldsUnit}

pub record IsUnitAsks (f : OpenedField) (c : ℕ) (rows : List ℕ) : Type 0 where
  pub known : Known f
  pub most : c ≤ longest
  pub whole : length rows ≡ 6 * c

abbrev pub IsUnitGives : OpenedField → ℕ → List ℕ → Bool → Type 0
IsUnitGives f c rows r = (G H : List ℕ) → Kept f G H → Decides r (HoldsUnit f.field.p G H c rows)
