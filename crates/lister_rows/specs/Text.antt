-- The bytes of the unit's rows.
--   rows_text E0 E1 E2   the rows of the unit, a semicolon before each, and a newline
-- A row is printed without the zeros at its end: `trim` of crate base_lists. Laws: proofs/Parts. Two outcomes of `put_rows` are equal:
-- `placed_unique` of crate base_lists.
use Rattle.std.specs.Prelude.{List, [], ◌∷◌, ◌++◌, ℕ}
use Rattle.text_put.specs.Print.{semicolon, newline, list_text}

unfoldable pub rows_text : List ℕ → List ℕ → List ℕ → List ℕ
rows_text E0 E1 E2 = semicolon ∷ list_text E0 ++ semicolon ∷ list_text E1 ++ semicolon ∷ list_text E2 ++ newline ∷ []
