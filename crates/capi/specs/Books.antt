-- What the functions of the C interface tell of a book: document 01's numbers, as five in a row.
--   CheckSays, WriteSays, AddSays, AttestSays    what the contract of the function behind each allows
-- In proofs/Once.antt: two outcomes that meet one of them are equal. `numbers`, the five in a row, is in book_numbers/specs/Numbers.antt.
-- What asking for an entry tells is in book_place/specs/Place.antt, for a part of a body in book_parts/specs/Parts.antt; beginning a book in
-- book_begin/specs/Begin.antt; writing a body from rows in book_rows/specs/Rows.antt.
use Rattle.std.specs.Prelude.{◌≡◌, List, ℕ}
use Rattle.base_answers.specs.Said.{Said}
use Rattle.book_body.specs.Body.{Body}
use Rattle.book_check.specs.Answer.{Tells}
use Rattle.book_write.specs.Write.{WriteTells}
use Rattle.book_add.specs.Add.{AddTells}
use Rattle.book_attest.specs.Attest.{AttestTells}
use Rattle.book_numbers.specs.Numbers.{numbers}

pub record CheckSays (s out : List ℕ) : Type 0 where
  pub said : Said
  pub tells : Tells s said
  pub written : out ≡ numbers said

pub record WriteSays (b : Body) (d d' out : List ℕ) : Type 0 where
  pub said : Said
  pub tells : WriteTells b d said d'
  pub written : out ≡ numbers said

pub record AddSays (d : List ℕ) (n : ℕ) (b d' out : List ℕ) : Type 0 where
  pub said : Said
  pub tells : AddTells d n b said d'
  pub written : out ≡ numbers said

pub record AttestSays (s : List ℕ) (i : ℕ) (out : List ℕ) : Type 0 where
  pub said : Said
  pub tells : AttestTells s i said
  pub written : out ≡ numbers said
