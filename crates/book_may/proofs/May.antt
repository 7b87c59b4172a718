-- From the answers of the book's functions to whether a body may be added.
use mathlib.Core.Path.{◌≡◌, refl, subst}
use mathlib.Core.Logic.{inl, inr}
use mathlib.Core.List.{List}
use Prim.Native.Nat.{ℕ, ◌<◌, ◌≤◌}
use native.Mathlib.Omega.{arith}
use Rattle.book_body.specs.Body.{FieldSays, body_of, Formed, Finished}
use Rattle.book_check.specs.Book.{count, Accepted}
use Rattle.book_check.specs.Answer.{reason_says, BodyFault, Tells}
use Rattle.book_first.specs.Earliest.{Earliest}
use Rattle.book_check.proofs.Asking.{refused_no}
use Rattle.std.specs.declared.result.Result.TheVariants.{Ok, Err}
use Rattle.base_answers.specs.declared.Fault.TheVariants.{AlreadyIn}
use Rattle.book_judge.specs.declared.Reason.{Reason}
use Rattle.book_judge.specs.declared.BookRefusal.TheVariants.{Malformed, Other}
use Rattle.book_may.specs.May.{VerdictTells}

pub finished : (b : List ℕ) → Formed b × FieldSays (body_of b) 0 → Finished b
finished b g = record { formed = g.0; field = g.1 }

module _ (s b : List ℕ) where
  pub has_of : (c j : ℕ) → c ≡ count s → j < c → Accepted s → Finished b → Earliest s (body_of b) c j → VerdictTells s b (Err (Other AlreadyIn))
  has_of c j e h a f w = (refl, a, f, (j, omega arith, w.found h))

  pub may_of : (c j : ℕ) → c ≡ count s → c ≤ j → Accepted s → Finished b → Earliest s (body_of b) c j → VerdictTells s b (Ok c)
  may_of c j e h a f w = (e, a, f, λ k u o. w.none k (omega arith) o)

  pub book_no : (why : Reason) → Tells s (reason_says why) → VerdictTells s b (Err (Malformed why))
  book_no why t = inl (refused_no s why t, t)

  pub body_no : (c : ℕ) (why : Reason) → c ≡ count s → Accepted s → BodyFault b c (reason_says why) → VerdictTells s b (Err (Malformed why))
  body_no c why e a f = inr (a, subst (λ (i : ℕ). BodyFault b i (reason_says why)) e f)
