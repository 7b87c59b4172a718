-- What is said of a book, in document 01's numbers, as five in a row.
--   numbers x          the refusal, the inner reason of 13, its entry, its other number, the result
--   unwritten_says u   what is said of a body that is not written or added: the reason, or the refusal of the number
--   writing_says a     the same of an answer that is a length where it is written
--   unwritten_of r     a refusal of a book, as one of those
-- In proofs/Same.antt: the numbers of what is the same are the same; `unwritten_same` and `writing_same`, what a refusal becomes says what
-- the refusal says.
use Rattle.std.specs.Prelude.{List, [], ◌∷◌, ℕ, Result, Ok, Err}
use Rattle.base_answers.specs.Said.{Said, passed, refused}
use Rattle.base_answers.specs.Faults.{fault_number}
use Rattle.book_judge.specs.Reasons.{reason_says}
use Rattle.book_judge.specs.declared.BookRefusal.{BookRefusal}
use Rattle.book_judge.specs.declared.BookRefusal.TheVariants as book
use Rattle.book_numbers.specs.declared.Unwritten.{Unwritten}
use Rattle.book_numbers.specs.declared.Unwritten.TheVariants.{Malformed, Number}

abbrev pub numbers : Said → List ℕ
numbers x = x.number ∷ x.reason ∷ x.entry ∷ x.other ∷ x.result ∷ []

abbrev pub unwritten_says : Unwritten → Said
unwritten_says (Malformed why) = reason_says why
unwritten_says (Number k) = refused k

abbrev pub writing_says : Result ℕ Unwritten → Said
writing_says (Ok n) = passed n
writing_says (Err u) = unwritten_says u

abbrev pub unwritten_of : BookRefusal → Unwritten
unwritten_of (book.Malformed why) = Malformed why
unwritten_of (book.Other k) = Number (fault_number k)
