-- Crates book_body, book_field and book: what their own proofs do not say already.
use mathlib.Core.Path.{◌≡◌, sym, ◌∙◌}
use mathlib.Core.List.{List}
use Prim.Native.Nat.{ℕ}
use Rattle.std.specs.declared.result.Result.{Result}
use Rattle.base_answers.specs.declared.Period.{Period}
use Rattle.book_body.specs.Body.{FieldSays, body_of}
use Rattle.book_check.specs.Answer.{answer_says, request_says, Tells, AskTells}
use Rattle.book_judge.specs.declared.Reason.{Reason}
use Rattle.book_judge.specs.declared.BookRefusal.{BookRefusal}
use Rattle.book_check.proofs.One.{field_unique, answer_unique, request_unique, tells_unique, ask_unique}

-- ---- book_body
pub field_refusal_unique : (s : List ℕ) (n m : ℕ) → FieldSays (body_of s) n → FieldSays (body_of s) m → n ≡ m
field_refusal_unique s = field_unique (body_of s)

pub period_of_unique : (s : List ℕ) (a b : Period) → a.0 ≡ (body_of s).period → b.0 ≡ (body_of s).period → a ≡ b
period_of_unique s a b e f = λ i. record { 0 = (e ∙ sym f) i }

-- ---- book: the answers themselves, not only what they say in document 01's numbers
pub check_unique : {s : List ℕ} (a b : Result (Unit {0}) Reason) → Tells s (answer_says a) → Tells s (answer_says b) → a ≡ b
check_unique {s} a b h k = answer_unique a b (tells_unique s h k)

pub ask_answer_unique : {s : List ℕ} {i : ℕ} (a b : Result (Unit {0}) BookRefusal) → AskTells s i (request_says a) → AskTells s i (request_says b) → a ≡ b
ask_answer_unique {s} a b h k = request_unique a b (ask_unique s h k)
