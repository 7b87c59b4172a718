-- The answer at the input's end.
--   Ends d n r d'   it is put into d: refused 12 where a line is pending
-- Two outcomes of `finish` are equal: `placed_unique` of crate base_lists.
use Rattle.std.specs.Prelude.{List, ℕ}
use Rattle.base_lists.specs.Pieces.{Put}
use Rattle.text_cut.specs.Feed.{end_text}

abbrev pub Ends : List ℕ → ℕ → ℕ → List ℕ → Type 0
Ends d n r d' = Put d 0 (end_text n) r d'
