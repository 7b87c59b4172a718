-- What the book's functions mean together (document 01, "The book").
--   list_of b k          list k of the body b: 0 to 4 for G, H, E0, E1, E2
--   Wrote b d n d'      the first n bytes of the slice d', which was d, are a finished body that says b; the slice beyond them is unchanged
--   Grown s b s'        the book s' is the book s with the bytes b as its last body, and nothing of the older entries has changed
--   Returns b r         the bytes r say the body b, and the list reader returns each of its lists
--   unit_body p G H m c rows   the body of a unit that `unit` made: its period, and its first three rows without the zeros at their ends
--   Bookable b          the body b can be written and attested: its field is accepted, it obeys the body rule, and its E has a non-zero
--                       constant norm
--   BookCalls           what follows one call from the answer of another
-- How to read it: a call is an outcome that meets the contract of its function, x and y are what it says, `result` the length it returns.
-- `take n d` is the book of length n in the slice d. A lent slice of bytes holds bytes: `Bytes`.
-- The theorem `book_calls` is in proofs/BookCalls.antt.
use Rattle.std.specs.Prelude.{◌≡◌, ◌⊎◌, List, ◌++◌, ℕ, zero, suc, ◌+◌, ◌*◌, ◌<◌, ◌≤◌, length, take, drop}
use Rattle.base_lists.specs.Pieces.{cut}
use Rattle.base_lists.specs.Coefficients.{trim}
use Rattle.base_answers.specs.Said.{Said, passed, refused}
use Rattle.door_unit.specs.Unit.{UnitAnswer, Makes}
use Rattle.book_bytes.specs.Bytes.{Bytes}
use Rattle.book_body.specs.Body.{Body, Rule, FieldSays, body_bytes, body_of, Finished}
use Rattle.book_body.specs.Code.{ListTells}
use Rattle.book_write.specs.Write.{body_from, WriteTells}
use Rattle.book_check.specs.Book.{count, entry, Accepted}
use Rattle.book_check.specs.Value.{value_of}
use Rattle.book_check.specs.Answer.{Tells, AskTells, AskedPart}
use Rattle.book_add.specs.Add.{AddTells}
use Rattle.book_norm.specs.Attested.{Attested}
use Rattle.book_attest.specs.Attest.{AttestTells}

abbrev pub list_of : Body → ℕ → List ℕ
list_of b zero = b.G
list_of b (suc zero) = b.H
list_of b (suc (suc zero)) = b.E0
list_of b (suc (suc (suc zero))) = b.E1
list_of b (suc (suc (suc (suc k)))) = b.E2

-- "Writing a body takes p, G, H, the period and the three E lists into a lent slice and returns its length; the slice beyond that length is
-- unchanged."; "Its length is 16 + twice the sum of the lengths."
pub record Wrote (b : Body) (d : List ℕ) (n : ℕ) (d' : List ℕ) : Type 0 where
  pub long : n ≡ 16 + 2 * (length b.G + length b.H + length b.E0 + length b.E1 + length b.E2)
  pub bytes : take n d' ≡ body_bytes b
  pub says : body_of (take n d') ≡ b
  pub finished : Finished (take n d')
  pub rest : drop n d' ≡ drop n d

-- "Adding puts one finished body last."; "asking for one returns that part itself"
pub record Grown (s b s' : List ℕ) : Type 0 where
  pub accepted : Accepted s'
  pub one_more : count s' ≡ suc (count s)
  pub checked : (y : Said) → Tells s' y → y ≡ passed 0
  pub new_there : (y : Said) → AskTells s' (count s) y → y ≡ passed 0
  pub new_part : (r : List ℕ) → AskedPart s' (count s) r → r ≡ b
  pub new_entry : entry s' (count s) ≡ body_of b
  pub old_part : (i : ℕ) → i < count s → (r r' : List ℕ) → AskedPart s i r → AskedPart s' i r' → r' ≡ r
  pub old_entry : (i : ℕ) → i < count s → entry s' i ≡ entry s i

pub record Returns (b : Body) (r : List ℕ) : Type 0 where
  pub says : body_of r ≡ b
  pub lists :
      (k : ℕ) → k < 5 →
      (out out' : List ℕ) (y : Said) → ListTells r k out y out' → length (list_of b k) ≤ length out →
      (y ≡ passed (length (list_of b k))) × (out' ≡ list_of b k ++ drop (length (list_of b k)) out)

abbrev pub unit_body : ℕ → List ℕ → List ℕ → UnitAnswer → ℕ → List ℕ → Body
unit_body p G H m c rows =
    body_from p G H m.period.0 (trim (cut 0 c rows)) (trim (cut c c rows)) (trim (cut (c + c) c rows))

pub record Bookable (b : Body) : Type 0 where
  pub field : FieldSays b 0
  pub rule : Rule b
  pub attested : Attested b
  -- writing it is refused for room alone: "11 when the slice is shorter"
  pub writes :
      {d d' : List ℕ} {x : Said} → WriteTells b d x d' →
      (x.number ≡ 0) ⊎ ((x ≡ refused 11) × (length d < length (body_bytes b)))
  -- as an entry of a book it is attested: "yes exactly when its E has a non-zero constant norm"
  pub attests :
      {s : List ℕ} {i : ℕ} {x : Said} → Accepted s → i < count s → entry s i ≡ b →
      AttestTells s i x →
      x ≡ passed 1

pub record BookCalls : Type 0 where
  -- what was written says the given lists, and is a finished body
  pub written :
      {b : Body} {d d' : List ℕ} {x : Said} →
      WriteTells b d x d' → x.number ≡ 0 →
      Wrote b d x.result d'
  -- a book to which a body was added; "Success returns the new length and changes only the book's new extent."
  pub added :
      {n : ℕ} {d b d' : List ℕ} {x : Said} → Bytes d → Bytes b →
      AddTells d n b x d' → x.number ≡ 0 →
      Grown (take n d) b (take x.result d') × (drop x.result d' ≡ drop x.result d)
  -- a body that was written can be added to an accepted book: what refuses it is its field or the room, never the body
  pub addable :
      {b : Body} {w w' : List ℕ} {x : Said} → WriteTells b w x w' → x.number ≡ 0 →
      {n : ℕ} {d d' : List ℕ} {y : Said} → n ≤ length d → Accepted (take n d) → AddTells d n (take x.result w') y d' →
      (y.number ≡ 0) ⊎ ((y ≡ refused 15) ⊎ (y ≡ refused 11))
  -- written, added, asked for: the part is the bytes written, and says the body that was given, list by list
  pub round :
      {b : Body} {w w' : List ℕ} {x : Said} → WriteTells b w x w' → x.number ≡ 0 →
      {n : ℕ} {d d' : List ℕ} {y : Said} → Bytes d → AddTells d n (take x.result w') y d' → y.number ≡ 0 →
      (r : List ℕ) → AskedPart (take y.result d') (count (take n d)) r →
      (r ≡ take x.result w') × Returns b r
  -- two accepted books with the same rows are the same bytes
  pub same_rows : (s t : List ℕ) → Bytes s → Bytes t → Accepted s → Accepted t → value_of s ≡ value_of t → s ≡ t
  -- a unit that `unit` made can be written into the book: convention 1, under which E0 is monic, as the body rule asks
  pub unit_bookable :
      {p n : ℕ} {G H rows scratch rows' scratch' : List ℕ} (m : UnitAnswer) →
      Makes 1 p G H n rows scratch m rows' scratch' → m.refusal ≡ 0 →
      (c : ℕ) → length rows' ≡ 6 * c →
      Bookable (unit_body p G H m c rows')
  -- and once it is written and added, its entry is attested
  pub unit_attested :
      {p k : ℕ} {G H rows scratch rows' scratch' : List ℕ} (m : UnitAnswer) →
      Makes 1 p G H k rows scratch m rows' scratch' → m.refusal ≡ 0 →
      (c : ℕ) → length rows' ≡ 6 * c →
      {w w' : List ℕ} {x : Said} → WriteTells (unit_body p G H m c rows') w x w' → x.number ≡ 0 →
      {n : ℕ} {d d' : List ℕ} {y : Said} → Bytes d → AddTells d n (take x.result w') y d' → y.number ≡ 0 →
      {z : Said} → AttestTells (take y.result d') (count (take n d)) z →
      z ≡ passed 1
