-- The numbers of what is the same are the same; a refusal of a book, turned into an `Unwritten`, says what it said.
--   same_numbers     the numbers of what is the same
--   unwritten_same   a refusal turned says what it said
--   Turned a b       b is the answer a with its refusal turned, as `map_err` leaves it; writing_same: it says what a says
use mathlib.Core.Path.{◌≡◌, ◌∙◌, refl, sym, ap}
use mathlib.Core.List.{List}
use Prim.Native.Nat.{ℕ}
use Rattle.std.specs.declared.result.Result.{Result}
use Rattle.std.specs.declared.result.Result.TheVariants.{Ok, Err}
use Rattle.std.specs.Result.{MatchResult, IsErrAnd}
use Rattle.std.proofs.lemmas.Result.{err_from_is_err_and}
use Rattle.base_answers.specs.Said.{Said}
use Rattle.book_judge.specs.Reasons.{refusal_says, length_says}
use Rattle.book_judge.specs.declared.BookRefusal.{BookRefusal}
use Rattle.book_judge.specs.declared.BookRefusal.TheVariants.{Malformed, Other}
use Rattle.book_numbers.specs.Numbers.{numbers, unwritten_says, writing_says, unwritten_of}
use Rattle.book_numbers.specs.declared.Unwritten.{Unwritten}

pub same_numbers : {x y : Said} {o o' : List ℕ} → x ≡ y → o ≡ numbers x → o' ≡ numbers y → o ≡ o'
same_numbers e a b = a ∙ ap numbers e ∙ sym b

pub unwritten_same : (r : BookRefusal) → unwritten_says (unwritten_of r) ≡ refusal_says r
unwritten_same (Malformed why) = refl
unwritten_same (Other k) = refl

abbrev pub Turned : Result ℕ BookRefusal → Result ℕ Unwritten → Type 0
Turned a b = MatchResult a (λ n. b ≡ Ok n) (λ r. IsErrAnd b (λ u. u ≡ unwritten_of r))

pub writing_same : (a : Result ℕ BookRefusal) (b : Result ℕ Unwritten) → Turned a b → writing_says b ≡ length_says a
writing_same (Ok n) b e = ap writing_says e
writing_same (Err r) b e = let w = err_from_is_err_and b e in ap writing_says w.1 ∙ ap unwritten_says w.2 ∙ unwritten_same r
