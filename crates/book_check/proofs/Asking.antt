-- From the check's answer to the answer of asking for an entry, and from that to the part that is handed out.
use mathlib.Core.Path.{◌≡◌, refl}
use mathlib.Core.List.{List, []}
use Prim.Native.Nat.{ℕ, ◌<◌}
use native.Mathlib.Omega.{arith}
use Rattle.base_answers.specs.Said.{Said}
use Rattle.base_answers.proofs.Said.{number_of}
use Rattle.book_check.specs.Book.{Accepted, count}
use Rattle.book_check.specs.Answer.{reason_says, answer_says, request_says, Tells, AskTells, AskedPart, book, no_entry, there, empty}
use Rattle.book_contents.specs.Contents.{Ready}
use Rattle.book_check.proofs.Facts.{told_fine, thirteen}
use Rattle.book_check.proofs.One.{accepted_fine}
use Rattle.std.specs.declared.result.Result.TheVariants.{Ok, Err}
use Rattle.book_judge.specs.declared.Reason.{Reason}
use Rattle.book_judge.specs.declared.BookRefusal.{BookRefusal}
use Rattle.book_judge.proofs.Says.{refusal_number}

module _ (s : List ℕ) where
  pub yes_of : Tells s (answer_says (Ok tt)) → Accepted s
  yes_of t = told_fine t refl

  pub refused_no : (why : Reason) → Tells s (reason_says why) → Accepted s → ⊥
  refused_no why t a =
      let n : (reason_says why).number ≡ 0 = number_of (accepted_fine s a t) in
      let m : (reason_says why).number ≡ 13 = thirteen why in
      omega arith

  pub ask_refused : (i : ℕ) (why : Reason) → Tells s (reason_says why) → AskTells s i (reason_says why)
  ask_refused i why t = book (refused_no why t) t

  -- the entry is there exactly when the number is 0
  pub told_there : {i : ℕ} {x : Said} → AskTells s i x → x.number ≡ 0 → Accepted s × (i < count s)
  told_there (book f t) z = absurd (f (told_fine t z))
  told_there (no_entry a h e) z = let u = number_of e in absurd (omega arith)
  told_there (there a h e) z = (a, h)

  pub told_none : {i : ℕ} {x : Said} → AskTells s i x → (x.number ≡ 0 → ⊥) → Accepted s → i < count s → ⊥
  told_none (book f t) z a h = f a
  told_none (no_entry b k e) z a h = omega arith
  told_none (there b k e) z a h = z (number_of e)

  pub there_of : {i : ℕ} → AskTells s i (request_says (Ok tt)) → Accepted s × (i < count s)
  there_of t = told_there t refl

  pub ready_of : (i : ℕ) → Accepted s × (i < count s) → Ready s i
  ready_of i w = record { marked = w.0.marked; listed = w.0.listed; there = w.1 }

  pub part_refused : {i : ℕ} (r : BookRefusal) → AskTells s i (request_says (Err r)) → AskedPart s i []
  part_refused r t = empty (told_none t (refusal_number r)) refl
