-- Adding a finished body to a book that stands in a lent slice.
--   new_book s b         the book s with the body b last
--   added_says r         what the answer says in document 01's numbers: the new length, or the refusal
--   AddTells d n b x d' adding b to the book of length n in the slice d, which is d' then, says x: 14 when the length exceeds the
--                       slice; 13 for the book; 13 for the body, with the old count as its entry; 15; 11 when there is too little room
--                       in the slice or in 65,536 bytes; else the new length, and only the book's new extent is changed
-- `new_length` is of crate book_put, `Unlisted` of crate book_may.
-- That x and d', and the answer itself, are settled by d, n and b is `add_unique` and `added_unique`, in proofs/One.antt; that after 0 the
-- new book is accepted and says the old bodies and the new one is `added_accepted`, in proofs/Accepted.antt.
use Rattle.std.specs.Prelude.{◌≡◌, ◌⊎◌, List, [], ◌∷◌, ◌++◌, ℕ, ◌<◌, ◌≤◌, length, take, drop, Result}
use Rattle.base_answers.specs.Said.{Said, passed, refused}
use Rattle.book_body.specs.Body.{OneField, body_of, Finished}
use Rattle.book_check.specs.Book.{count, entry, Accepted}
use Rattle.book_check.specs.Value.{bytes_of_book, value_of}
use Rattle.book_check.specs.Answer.{BodyFault, Tells}
use Rattle.book_judge.specs.Reasons.{length_says}
use Rattle.book_judge.specs.declared.BookRefusal.{BookRefusal}
use Rattle.book_may.specs.May.{Unlisted}
use Rattle.book_put.specs.Code.{new_length}

abbrev pub new_book : List ℕ → List ℕ → List ℕ
new_book s b = bytes_of_book (value_of s ++ (body_of b ∷ []))

abbrev pub added_says : Result ℕ BookRefusal → Said
added_says = length_says

module _ (d : List ℕ) (n : ℕ) (b : List ℕ) where
  pub data AddTells (x : Said) (d' : List ℕ) : Type 0 where
    length_out : length d < n → x ≡ refused 14 → d' ≡ d → AddTells x d'
    book : n ≤ length d → (Accepted (take n d) → ⊥) → Tells (take n d) x → d' ≡ d → AddTells x d'
    body : n ≤ length d → Accepted (take n d) → BodyFault b (count (take n d)) x → d' ≡ d → AddTells x d'
    known : n ≤ length d → Accepted (take n d) → Finished b → (j : ℕ) → j < count (take n d) → OneField (body_of b) (entry (take n d) j)
        → x ≡ refused 15 → d' ≡ d → AddTells x d'
    short : n ≤ length d → Accepted (take n d) → Finished b → Unlisted (take n d) b → (length d < new_length n b) ⊎ (65536 < new_length n b)
        → x ≡ refused 11 → d' ≡ d → AddTells x d'
    added : n ≤ length d → Accepted (take n d) → Finished b → Unlisted (take n d) b → new_length n b ≤ length d → new_length n b ≤ 65536
        → x ≡ passed (new_length n b) → d' ≡ new_book (take n d) b ++ drop (new_length n b) d → AddTells x d'
