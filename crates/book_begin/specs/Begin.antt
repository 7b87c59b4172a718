-- Beginning a book in a lent slice.
--   empty_book          the bytes of the book that has no bodies
--   BeginTells d x d'  beginning a book in the slice d, which is d' then, says x: 11 when the slice is shorter; else the length, with the
--                      empty book at the front and the rest of the slice as it was
--   BeginSays          the same, as the five numbers of the answer
-- In proofs/Once.antt: two outcomes that meet one of them are equal (begin_unique, begin_says_unique), a refusal leaves the slice
-- as it was (begin_kept); in proofs/Begun.antt: a book begun is accepted and has no bodies (begun_accepted, begun_empty).
use Rattle.std.specs.Prelude.{◌≡◌, List, [], ◌++◌, ℕ, ◌<◌, ◌≤◌, length, drop}
use Rattle.base_answers.specs.Said.{Said, passed, refused}
use Rattle.book_check.specs.Value.{bytes_of_book}
use Rattle.book_numbers.specs.Numbers.{numbers}

abbrev pub empty_book : List ℕ
empty_book = bytes_of_book []

pub data BeginTells (d : List ℕ) (x : Said) (d' : List ℕ) : Type 0 where
  short : length d < length empty_book → x ≡ refused 11 → d' ≡ d → BeginTells d x d'
  begun : length empty_book ≤ length d → x ≡ passed (length empty_book) → d' ≡ empty_book ++ drop (length empty_book) d → BeginTells d x d'

pub record BeginSays (d d' out : List ℕ) : Type 0 where
  pub said : Said
  pub tells : BeginTells d said d'
  pub written : out ≡ numbers said
