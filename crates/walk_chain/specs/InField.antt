-- The walk in an opened field: what `walk_on_rows` asks and hands out, read off the struct.
--   WalkInFieldAsks c B n      c is an opened field with the first coefficients of its series, B a record of it, n a budget within its rule
--   WalkInFieldGives c B n o   o is the walk from B: closed within the budget, or the budget spent, whatever accepted G, H the field is opened from
use Rattle.std.specs.Prelude.{List, ℕ}
use Rattle.field_series.specs.declared.OpenedField.{OpenedField}
use Rattle.walk_chain.specs.Walk.{WalkAnswer}
use Rattle.walk_chain.specs.Going.{WalkOnRowsAsks, Gone}

abbrev pub WalkInFieldAsks : OpenedField → List ℕ → ℕ → Type 0
WalkInFieldAsks c B n = WalkOnRowsAsks c.field.p c.field.g c.field.h c.field.gh c.field.dr c.field.dw c.r c.w B n

abbrev pub WalkInFieldGives : OpenedField → List ℕ → ℕ → WalkAnswer → Type 0
WalkInFieldGives c B n o = Gone c.field.p c.field.g c.field.h c.field.gh c.field.dr c.field.dw c.r c.w B n o
