-- Request E3: "Two pairs over the same p are of one field when they agree after both are made monic, in either order. Prove that such pairs
-- have the same period and regulator, and say how the rows of the unit carry over: E1 and E2 change places on a swap and take constant
-- factors, E0 stays. Refusals: inner reason "twice" and refusal 15 now use the wider test; an old book that breaks it is refused."
--   SameField   the request: the relation, what such pairs share in the theory's words and in the answers, rows carried over, the book
-- How to read it: `OneField` (pair_laws/specs/OneField.antt) has the words of the request, `RowsCarry` and `RecordCarries` (pair_laws/specs/Rows.antt)
-- say how rows of numbers carry over, `Shared` (pair_theory/specs/Shared.antt) what two such pairs share as fields with their series, and
-- `Alike` (pair_answers/specs/Alike.antt) what the functions answer for them.
-- The theorem `same_field` is in proofs/SameField.antt.
use Rattle.std.specs.Prelude.{◌≡◌, true, List, ℕ, ◌<◌, ◌≤◌, length, get_or, take}
use Rattle.math_fp.specs.Fp.{Prime}
use Rattle.math_rows.specs.Made.{reading}
use Rattle.field_open.specs.Refusal.{Accepted}
use Rattle.pair_laws.specs.OneField.{OneField}
use Rattle.pair_agree.specs.Answer.{Coefficients}
use Rattle.door_compare.specs.Answer.{CompareAnswer, Compares}
use Rattle.basis_record.specs.Setting.{roots}
use Rattle.pair_theory.specs.Shared.{Shared}
use Rattle.door_transfer.specs.Transfer.{Transfers}
use Rattle.pair_answers.specs.Alike.{Alike}
use Rattle.base_answers.specs.Said.{Said, refused}
use Rattle.book_body.specs.Body as body
use Rattle.book_check.specs.Book as book
use Rattle.book_check.specs.Answer.{Tells}
use Rattle.book_add.specs.Add.{AddTells}

pub record SameField : Type 0 where
  -- an equivalence on pairs of lists of coefficients, which comparing decides
  pub reflexive : (p : ℕ) → Prime p → {G H : List ℕ} → Coefficients p G H → OneField p G H G H
  pub symmetric : {p : ℕ} {G H G' H' : List ℕ} → OneField p G H G' H' → OneField p G' H' G H
  pub transitive : (p : ℕ) → Prime p → {G H G' H' G'' H'' : List ℕ} → Coefficients p G' H' →
      OneField p G H G' H' → OneField p G' H' G'' H'' → OneField p G H G'' H''
  pub compared : {p : ℕ} {G H G' H' : List ℕ} → Accepted p G H → Accepted p G' H' → (a : CompareAnswer) → Compares p G H G' H' a →
      OneField p G H G' H' → (a.refusal ≡ 0) × (a.same ≡ true)
  -- in the theory's words
  pub shared : {p : ℕ} {G H G' H' : List ℕ} (A : Accepted p G H) (A' : Accepted p G' H') → OneField p G H G' H' →
      (pr : Prime p) → Shared (reading p pr).𝓥 (roots A pr) (roots A' pr)
  -- in the answers
  pub alike : Alike
  -- rows carried over and back are the same rows
  pub back : (p : ℕ) (G H G' H' rows rows' rows'' : List ℕ) (n : ℕ) → ((i : ℕ) → i < length rows → get_or rows i 0 < p) →
      Transfers p G H G' H' rows 0 rows' → Transfers p G' H' G H rows' n rows'' →
      (n ≡ 0) × (rows'' ≡ rows)
  -- a book that has a field twice is refused 13, and a body of a field that the book has is refused 15
  pub twice : (s : List ℕ) (x : Said) → Tells s x → (i j : ℕ) → i < book.count s → j < i → body.OneField (book.entry s i) (book.entry s j) →
      x.number ≡ 13
  pub known : (d b d' : List ℕ) (n : ℕ) (x : Said) → AddTells d n b x d' → n ≤ length d → book.Accepted (take n d) → body.Finished b →
      (j : ℕ) → j < book.count (take n d) → body.OneField (body.body_of b) (book.entry (take n d) j) →
      (x ≡ refused 15) × (d' ≡ d)
