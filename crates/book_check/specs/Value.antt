-- The book of units as a value: a list of bodies.
--   bytes_of_book bs    its bytes: the mark, the number of bodies, the contents, the bodies
--   table at bs     the contents of bodies that stand from `at` on
--   bodies bs       the bodies' bytes, one after another
--   Obeys bs        it obeys the rules: the body rule, the field accepted, no two of one field, at most 65,536 bytes
--   value_of s       the bodies that the bytes s say; rows s i k are k of them, from entry i on
--   Written s       s is the writing of a value that obeys the rules
-- That the accepted bytes are the written ones, that a writing reads back, and that there is one value to each, is in
-- proofs/Written.antt: accepted_written, written_accepted, reads_back, one-value.
use Rattle.std.specs.Prelude.{◌≡◌, List, [], ◌∷◌, ◌++◌, ℕ, zero, suc, ◌+◌, ◌*◌, ◌<◌, ◌≤◌, length, get_or}
use Rattle.book_bytes.specs.Bytes.{le}
use Rattle.book_body.specs.Body.{Body, Rule, FieldSays, OneField, body_bytes}
use Rattle.book_check.specs.Book.{mark, width, count, entry}

unfoldable pub table : ℕ → List Body → List ℕ
table at [] = []
table at (b ∷ bs) = le 4 at ++ (le 4 (length (body_bytes b)) ++ table (at + length (body_bytes b)) bs)

unfoldable pub bodies : List Body → List ℕ
bodies [] = []
bodies (b ∷ bs) = body_bytes b ++ bodies bs

unfoldable pub bytes_of_book : List Body → List ℕ
bytes_of_book bs = mark ++ (le 2 (length bs) ++ (table (6 + width * length bs) bs ++ bodies bs))

abbrev pub none : Body
none = record { p = 0; G = []; H = []; period = 0; E0 = []; E1 = []; E2 = [] }

abbrev pub at : List Body → ℕ → Body
at bs i = get_or bs i none

pub record Obeys (bs : List Body) : Type 0 where
  pub size : length (bytes_of_book bs) ≤ 65536
  pub rule : (i : ℕ) → i < length bs → Rule (at bs i)
  pub field : (i : ℕ) → i < length bs → FieldSays (at bs i) 0
  pub once : (i j : ℕ) → i < length bs → j < i → OneField (at bs i) (at bs j) → ⊥

abbrev pub rows : List ℕ → ℕ → ℕ → List Body
rows s i zero = []
rows s i (suc k) = entry s i ∷ rows s (suc i) k

abbrev pub value_of : List ℕ → List Body
value_of s = rows s 0 (count s)

abbrev pub Written : List ℕ → Type 0
Written s = (bs : List Body) × Obeys bs × (bytes_of_book bs ≡ s)
