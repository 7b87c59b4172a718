-- What the code's own functions promise each other.
--   EntryOfAsks s i        it is ready, and the entries before it are sound
--   EntryTells s i r   entry i: sound, or its first fault
use Rattle.std.specs.Prelude.{List, ℕ, ◌<◌, Result, Ok, Err}
use Rattle.book_contents.specs.Contents.{Ready}
use Rattle.book_judge.specs.declared.Reason.{Reason}
use Rattle.book_check.specs.Book.{Sound}
use Rattle.book_check.specs.Answer.{reason_says, Fault}

pub record EntryOfAsks (s : List ℕ) (i : ℕ) : Type 0 where
  pub ready : Ready s i
  pub before : (j : ℕ) → j < i → Sound s j

abbrev pub EntryTells : List ℕ → ℕ → Result (Unit {0}) Reason → Type 0
EntryTells s i (Ok u) = Sound s i
EntryTells s i (Err why) = Fault s i (reason_says why)
