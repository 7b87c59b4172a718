-- The step in an opened field: what `step_on_rows` asks and hands out, read off the struct.
--   StepInFieldAsks c B      c is an opened field with the first coefficients of its series, and B a record of it
--   StepInFieldGives c B o   o is the step from B, whatever accepted G, H the field is opened from
use Rattle.std.specs.Prelude.{List, ℕ}
use Rattle.field_series.specs.declared.OpenedField.{OpenedField}
use Rattle.step_part.specs.Parting.{StepOnRowsAsks}
use Rattle.step_next.specs.Steps.{Advanced}
use Rattle.step_next.specs.declared.StepTaken.{StepTaken}

abbrev pub StepInFieldAsks : OpenedField → List ℕ → Type 0
StepInFieldAsks c B = StepOnRowsAsks c.field.p c.field.g c.field.h c.field.gh c.field.dr c.field.dw c.r c.w B

abbrev pub StepInFieldGives : OpenedField → List ℕ → StepTaken → Type 0
StepInFieldGives c B o = Advanced c.field.p c.field.g c.field.h c.field.gh c.field.dr c.field.dw c.r c.w B o
