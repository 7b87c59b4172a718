-- Writing a body from the rows of a unit.
--   row_of c at l       the row of c numbers from place `at` on, without the zeros at its end
--   body_of_rows         the body of p, G, H, the period and the first three of six rows
--   RowsTells p G H t l d x d'   writing it into the slice d, which is d' then, says x: where l is not six such rows, refusals 1 to 8, then
--                      14; else what writing that body says
--   RowsSays           the same, as the five numbers of the answer
-- In proofs/Once.antt: two outcomes that meet one of them are equal (rows_unique, rows_says_unique), and a refusal
-- leaves the slice as it was (rows_kept).
use Rattle.std.specs.Prelude.{◌≡◌, ◌≢◌, List, ℕ, ◌+◌}
use Rattle.base_lists.specs.Pieces.{piece}
use Rattle.base_lists.specs.Coefficients.{trim}
use Rattle.base_answers.specs.Limits.{Six}
use Rattle.base_answers.specs.Said.{Said, refused}
use Rattle.field_open.specs.Refusal.{Refusal}
use Rattle.book_body.specs.Body.{Body}
use Rattle.book_write.specs.Write.{body_from, WriteTells}
use Rattle.book_numbers.specs.Numbers.{numbers}

abbrev pub row_of : ℕ → ℕ → List ℕ → List ℕ
row_of c at l = trim (piece at c l)

abbrev pub body_of_rows : ℕ → List ℕ → List ℕ → ℕ → ℕ → List ℕ → Body
body_of_rows p G H t c l = body_from p G H t (row_of c 0 l) (row_of c c l) (row_of c (c + c) l)

module _ (p : ℕ) (G H : List ℕ) (t : ℕ) (l d : List ℕ) where
  pub data RowsTells (x : Said) (d' : List ℕ) : Type 0 where
    field : ((c : ℕ) → Six c l → ⊥) → (n : ℕ) → n ≢ 0 → Refusal p G H n → x ≡ refused n → d' ≡ d → RowsTells x d'
    unfit : ((c : ℕ) → Six c l → ⊥) → Refusal p G H 0 → x ≡ refused 14 → d' ≡ d → RowsTells x d'
    body : (c : ℕ) → Six c l → WriteTells (body_of_rows p G H t c l) d x d' → RowsTells x d'

  pub record RowsSays (d' out : List ℕ) : Type 0 where
    pub said : Said
    pub tells : RowsTells said d'
    pub written : out ≡ numbers said
