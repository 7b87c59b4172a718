-- Every line holds, because it passes its test: `table_holds`, those of the table; `requested_holds`, those of the requests.
use mathlib.Core.List.{[], ◌∷◌}
use Rattle.examples_table.specs.Table.{table, requested}
use Rattle.examples_table.proofs.Table.{h₃, hints, table_passes, requested_passes}
use Rattle.examples.specs.Lines.{AllHold}
use Rattle.examples.proofs.Sound.{all_sound}

pub table_holds : AllHold table
table_holds = all_sound table hints table_passes

pub requested_holds : AllHold requested
requested_holds = all_sound requested (h₃ ∷ []) requested_passes
