-- Reading a list of a body.
--   got_says r      what the answer to reading a list says: its length, or a refusal
--   ListTells s k d r d'   list k of the body's bytes s is read into the front of the slice d, which is d' then
use Rattle.std.specs.Prelude.{◌≡◌, List, ◌++◌, ℕ, ◌<◌, ◌≤◌, length, drop, Result, Ok, Err}
use Rattle.base_answers.specs.declared.Fault.{Fault}
use Rattle.base_answers.specs.Faults.{fault_number}
use Rattle.base_answers.specs.Said.{Said, passed, refused}
use Rattle.book_body.specs.Body.{list_at}

abbrev pub got_says : Result ℕ Fault → Said
got_says (Ok n) = passed n
got_says (Err k) = refused (fault_number k)

pub data ListTells (s : List ℕ) (k : ℕ) (d : List ℕ) (x : Said) (d' : List ℕ) : Type 0 where
  read : k < 5 → length (list_at s k) ≤ length d → x ≡ passed (length (list_at s k)) → d' ≡ list_at s k ++ drop (length (list_at s k)) d → ListTells s k d x d'
  none : 5 ≤ k → x ≡ refused 14 → d' ≡ d → ListTells s k d x d'
  short : k < 5 → length d < length (list_at s k) → x ≡ refused 11 → d' ≡ d → ListTells s k d x d'
