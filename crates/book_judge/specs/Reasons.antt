-- What is wrong with a book or a body, in document 01's numbers.
--   reason_says why    what a reason says
--   refusal_says r     what a refusal says; length_says the same of an answer that is a length, if it is not refused
--   BodyFault b i x   what is wrong with the bytes b of a body as entry i, the first found: x is the body rule (entry), or the field
--                     refused (entry, its number)
--   JudgeTells b i r  the bytes b of a body, as entry i: good, or the first of the body's reasons
-- That the bytes settle it is `judge_unique`, in crate book_check.
use Rattle.std.specs.Prelude.{◌≡◌, ◌≢◌, List, ℕ, Result, Ok, Err}
use Rattle.base_answers.specs.Said.{Said, passed, refused, malformed}
use Rattle.base_answers.specs.Faults.{fault_number}
use Rattle.book_body.specs.Body.{FieldSays, body_of, Formed}
use Rattle.book_judge.specs.declared.Reason.{Reason}
use Rattle.book_judge.specs.declared.Reason.TheVariants.{Mark, Contents, BodyRule, Field, Twice}
use Rattle.book_judge.specs.declared.BookRefusal.{BookRefusal}
use Rattle.book_judge.specs.declared.BookRefusal.TheVariants.{Malformed, Other}

abbrev pub reason_says : Reason → Said
reason_says Mark = malformed 1 0 0
reason_says Contents = malformed 2 0 0
reason_says (BodyRule i) = malformed 3 i 0
reason_says (Field i n) = malformed 4 i n
reason_says (Twice i j) = malformed 5 i j

abbrev pub refusal_says : BookRefusal → Said
refusal_says (Malformed why) = reason_says why
refusal_says (Other k) = refused (fault_number k)

abbrev pub length_says : Result ℕ BookRefusal → Said
length_says (Ok n) = passed n
length_says (Err r) = refusal_says r

pub data BodyFault (b : List ℕ) (i : ℕ) (x : Said) : Type 0 where
  rule : (Formed b → ⊥) → x ≡ malformed 3 i 0 → BodyFault b i x
  field : Formed b → (n : ℕ) → n ≢ 0 → FieldSays (body_of b) n → x ≡ malformed 4 i n → BodyFault b i x

abbrev pub JudgeTells : List ℕ → ℕ → Result (Unit {0}) Reason → Type 0
JudgeTells b i (Ok u) = Formed b × FieldSays (body_of b) 0
JudgeTells b i (Err why) = BodyFault b i (reason_says why)
