-- What the judgement of a body gives to the answers about its parts.
use mathlib.Core.Path.{◌≡◌, refl, ap}
use mathlib.Core.List.{List}
use Prim.Native.Nat.{ℕ}
use Rattle.book_body.specs.Code.{got_says, ListTells}
use Rattle.std.specs.declared.result.Result.{Result}
use Rattle.std.specs.declared.result.Result.TheVariants.{Ok}
use Rattle.base_answers.specs.declared.Fault.{Fault}
use Rattle.base_answers.specs.Said.{passed}
use Rattle.book_check.specs.Answer.{reason_says, BodyFault}
use Rattle.book_judge.specs.Reasons.{JudgeTells}
use Rattle.book_judge.specs.declared.Reason.{Reason}
use Rattle.book_numbers.specs.Numbers.{numbers}
use Rattle.book_parts.specs.Parts.{told, NumberTells, faulty, listed, ListSays}

module _ (s : List ℕ) where
  pub number_good : {n m : ℕ} → JudgeTells s 0 (Ok tt) → m ≡ n → NumberTells s n (passed m)
  number_good w f = told (record { formed = w.0; field = w.1 }) (ap passed f)

  pub list_good : {k : ℕ} {d d' : List ℕ} (a : Result ℕ Fault) {o : List ℕ}
      → JudgeTells s 0 (Ok tt) → ListTells s k d (got_says a) d' → o ≡ numbers (got_says a) → ListSays s k d d' o
  list_good a j l w = record { said = got_says a; tells = listed (record { formed = j.0; field = j.1 }) l; written = w }

  pub list_bad : {k : ℕ} {d o : List ℕ} (why : Reason) → BodyFault s 0 (reason_says why) → o ≡ numbers (reason_says why) → ListSays s k d d o
  list_bad why f w = record { said = reason_says why; tells = faulty f refl; written = w }
