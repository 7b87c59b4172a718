-- The bytes of an answer (document 01: "The fields are p, G, H, period, regulator, E0, E1, E2").
--   unit_text s l R E0 E1 E2      s, the period l, the regulator R and the rows of the unit, with semicolons
--   told n t                      refused n, or the text t where n is 0
--   made_text s m rows            what is printed of what `unit` answers: the refusal, or the unit, behind the text s of the field
--   printed s r rows              what is printed of a result: the unit, or the refusal of any number
--   result_of m                   the answer m as such a result; result_by n c, of its number and its cycle
-- A row is printed without the zeros at its end: `trim` of crate base_lists. Laws: proofs/Prints, among them that what is printed of an
-- answer is its `made_text` (`printed_made`). Two outcomes of `put_made` are equal: `placed_unique` of crate base_lists. The rows:
-- `rows_text` of crate lister_rows.
use Rattle.std.specs.Prelude.{List, ◌∷◌, ◌++◌, ℕ, zero, suc, Result, Ok, Err}
use Rattle.base_lists.specs.Pieces.{cut}
use Rattle.text_put.specs.Print.{semicolon, number_text, refused_text}
use Rattle.base_lists.specs.Coefficients.{trim}
use Rattle.base_answers.specs.declared.Cycle.{Cycle}
use Rattle.lister_rows.specs.Text.{rows_text}
use Rattle.door_unit.specs.Unit.{UnitAnswer}

-- "c = 1,024"
abbrev pub width : ℕ
width = 1024

unfoldable pub unit_text : List ℕ → ℕ → ℕ → List ℕ → List ℕ → List ℕ → List ℕ
unit_text s l R E0 E1 E2 = s ++ semicolon ∷ number_text l ++ semicolon ∷ number_text R ++ rows_text E0 E1 E2

-- refusal 0 is none
unfoldable pub told : ℕ → List ℕ → List ℕ
told zero t = t
told (suc n) t = refused_text (suc n)

unfoldable pub made_text : List ℕ → UnitAnswer → List ℕ → List ℕ
made_text s m rows =
    told m.refusal (unit_text s m.period.0 m.regulator.0 (trim (cut 0 width rows)) (trim (cut 1024 width rows)) (trim (cut 2048 width rows)))

abbrev pub printed : List ℕ → Result Cycle ℕ → List ℕ → List ℕ
printed s (Ok c) rows =
    unit_text s c.period.0 c.regulator.0 (trim (cut 0 width rows)) (trim (cut 1024 width rows)) (trim (cut 2048 width rows))
printed s (Err n) rows = refused_text n

-- refusal 0 is none; beside another nothing of the cycle is printed
abbrev pub result_by : ℕ → Cycle → Result Cycle ℕ
result_by zero c = Ok c
result_by (suc n) c = Err (suc n)

abbrev pub result_of : UnitAnswer → Result Cycle ℕ
result_of m = result_by m.refusal (record { period = m.period; regulator = m.regulator })
