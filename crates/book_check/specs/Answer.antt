-- What is answered of given bytes, in document 01's numbers.
--   answer_says, request_says    what the code's answers say; of a reason and of a refusal it is `reason_says` and
--                     `refusal_says` of crate book_judge
--   Fault s i x       what is wrong with entry i of the book s, the first found: its body (`BodyFault` of crate book_judge), or twice
--                     (entry, earlier entry)
--   Tells s x         the check of s says x: mark; contents; the first entry with a fault; or the book is fine
--   AskTells s i x    asking for entry i of s says x: 13 for the book first, then 14 if the entry is not there
--   AskedPart s i r   r is the part that is handed out: the one that the entry names, or the empty one
-- That the bytes settle each of them is in proofs/One.antt: tells_unique, ask_unique, part_unique.
use Rattle.std.specs.Prelude.{◌≡◌, List, [], ℕ, ◌<◌, ◌≤◌, Result, Ok, Err}
use Rattle.base_answers.specs.Said.{Said, passed, refused, malformed}
use Rattle.book_body.specs.Body.{FieldSays, OneField, Formed}
pub use Rattle.book_judge.specs.Reasons.{reason_says, refusal_says, BodyFault, rule, field}
use Rattle.book_judge.specs.declared.Reason.{Reason}
use Rattle.book_judge.specs.declared.BookRefusal.{BookRefusal}
use Rattle.book_check.specs.Book.{Marked, Listed, count, part, entry, Sound, Accepted}

abbrev pub answer_says : Result (Unit {0}) Reason → Said
answer_says (Ok u) = passed 0
answer_says (Err why) = reason_says why

abbrev pub request_says : Result (Unit {0}) BookRefusal → Said
request_says (Ok u) = passed 0
request_says (Err r) = refusal_says r

pub data Fault (s : List ℕ) (i : ℕ) (x : Said) : Type 0 where
  body : BodyFault (part s i) i x → Fault s i x
  twice : Formed (part s i) → FieldSays (entry s i) 0 → (j : ℕ) → j < i → OneField (entry s i) (entry s j)
      → ((k : ℕ) → k < j → OneField (entry s i) (entry s k) → ⊥) → x ≡ malformed 5 i j → Fault s i x

pub data Tells (s : List ℕ) (x : Said) : Type 0 where
  mark : (Marked s → ⊥) → x ≡ malformed 1 0 0 → Tells s x
  contents : Marked s → (Listed s → ⊥) → x ≡ malformed 2 0 0 → Tells s x
  at_entry : Marked s → Listed s → (i : ℕ) → i < count s → ((j : ℕ) → j < i → Sound s j) → Fault s i x → Tells s x
  fine : Accepted s → x ≡ passed 0 → Tells s x

pub data AskTells (s : List ℕ) (i : ℕ) (x : Said) : Type 0 where
  book : (Accepted s → ⊥) → Tells s x → AskTells s i x
  no_entry : Accepted s → count s ≤ i → x ≡ refused 14 → AskTells s i x
  there : Accepted s → i < count s → x ≡ passed 0 → AskTells s i x

pub data AskedPart (s : List ℕ) (i : ℕ) (r : List ℕ) : Type 0 where
  found : Accepted s → i < count s → r ≡ part s i → AskedPart s i r
  empty : (Accepted s → i < count s → ⊥) → r ≡ [] → AskedPart s i r
