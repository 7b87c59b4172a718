-- Whether a body may be added to a book.
--   Unlisted s b         no entry of the book s is of one field with b
--   VerdictTells s b v   may b be added to s: yes, with the number of bodies; 13 with the reason; 15
-- That there is one verdict is `verdict_unique`, in crate book_add.
use Rattle.std.specs.Prelude.{◌≡◌, ◌⊎◌, List, ℕ, ◌<◌, Result, Ok, Err}
use Rattle.base_answers.specs.declared.Fault.TheVariants.{AlreadyIn}
use Rattle.book_body.specs.Body.{OneField, body_of, Finished}
use Rattle.book_check.specs.Book.{count, entry, Accepted}
use Rattle.book_check.specs.Answer.{reason_says, BodyFault, Tells}
use Rattle.book_judge.specs.declared.BookRefusal.{BookRefusal}
use Rattle.book_judge.specs.declared.BookRefusal.TheVariants.{Malformed, Other}

abbrev pub Unlisted : List ℕ → List ℕ → Type 0
Unlisted s b = (j : ℕ) → j < count s → OneField (body_of b) (entry s j) → ⊥

abbrev pub VerdictTells : List ℕ → List ℕ → Result ℕ BookRefusal → Type 0
VerdictTells s b (Ok c) = (c ≡ count s) × Accepted s × Finished b × Unlisted s b
VerdictTells s b (Err (Malformed why)) =
    ((Accepted s → ⊥) × Tells s (reason_says why)) ⊎ (Accepted s × BodyFault b (count s) (reason_says why))
VerdictTells s b (Err (Other k)) = (k ≡ AlreadyIn) × Accepted s × Finished b × ((j : ℕ) × (j < count s) × OneField (body_of b) (entry s j))
