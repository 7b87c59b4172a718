-- Attesting an entry: its E has a non-zero constant norm, `Attested` of crate book_norm.
--   attest_says r          what the answer says in document 01's numbers: the result is 1 for yes and 0 for no
--   AttestTells s i x     attesting entry i of the book s says x: 13 for the book first, then 14 if the entry is not there
-- That the bytes settle what is said, and the answer itself, is `attest_unique` and `attestation_unique`, in proofs/One.antt.
use Rattle.std.specs.Prelude.{◌≡◌, List, ℕ, ◌<◌, ◌≤◌, Bool, true, false, Result, Ok, Err}
use Rattle.base_answers.specs.Said.{Said, passed, refused}
use Rattle.book_check.specs.Book.{count, entry, Accepted}
use Rattle.book_check.specs.Answer.{refusal_says, Tells}
use Rattle.book_judge.specs.declared.BookRefusal.{BookRefusal}
use Rattle.book_norm.specs.Attested.{Attested}

abbrev pub attest_says : Result Bool BookRefusal → Said
attest_says (Ok true) = passed 1
attest_says (Ok false) = passed 0
attest_says (Err r) = refusal_says r

pub data AttestTells (s : List ℕ) (i : ℕ) (x : Said) : Type 0 where
  book : (Accepted s → ⊥) → Tells s x → AttestTells s i x
  no_entry : Accepted s → count s ≤ i → x ≡ refused 14 → AttestTells s i x
  yes : Accepted s → i < count s → Attested (entry s i) → x ≡ passed 1 → AttestTells s i x
  no : Accepted s → i < count s → (Attested (entry s i) → ⊥) → x ≡ passed 0 → AttestTells s i x
