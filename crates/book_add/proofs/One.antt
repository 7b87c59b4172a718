-- The outcome of adding is settled by the slice, the book's length and the body.
--   add_unique       what is said, and the slice
--   added_unique     the answer itself, and the slice
--   verdict_unique   whether a body may be added
use mathlib.Core.Path.{◌≡◌, sym, ap, ◌∙◌}
use mathlib.Core.Logic.{◌⊎◌, inl, inr}
use mathlib.Core.List.{List}
use Prim.Native.Nat.{ℕ, ◌<◌, ◌≤◌}
use native.Mathlib.Omega.{arith}
use lib.ListN.{length, take}
use Rattle.base_answers.specs.Said.{Said}
use Rattle.book_body.specs.Body.{Finished}
use Rattle.book_check.specs.Book.{Accepted}
use Rattle.book_check.proofs.One.{tells_unique, body_unique, finished_no}
use Rattle.std.specs.declared.result.Result.{Result}
use Rattle.std.specs.declared.result.Result.TheVariants.{Ok, Err}
use Rattle.base_answers.specs.declared.Fault.{Fault}
use Rattle.book_judge.specs.declared.Reason.{Reason}
use Rattle.book_judge.specs.declared.BookRefusal.{BookRefusal}
use Rattle.book_judge.specs.declared.BookRefusal.TheVariants.{Malformed, Other}
use Rattle.book_judge.proofs.Says.{reason_unique, length_unique}
use Rattle.book_may.specs.May.{VerdictTells}
use Rattle.book_put.specs.Code.{new_length}
use Rattle.book_add.specs.Add.{added_says, AddTells, length_out, book, body, known, short, added}

module _ (d : List ℕ) (n : ℕ) (b : List ℕ) where
  no_room : (length d < new_length n b) ⊎ (65536 < new_length n b) → new_length n b ≤ length d → new_length n b ≤ 65536 → ⊥
  no_room (inl h) k l = omega arith
  no_room (inr h) k l = omega arith

  pub add_unique : {x y : Said} {e f : List ℕ} → AddTells d n b x e → AddTells d n b y f → (x ≡ y) × (e ≡ f)
  add_unique (length_out h p q) (length_out k u v) = (p ∙ sym u, q ∙ sym v)
  add_unique (length_out h p q) (book k g t v) = absurd (omega arith)
  add_unique (length_out h p q) (body k a t v) = absurd (omega arith)
  add_unique (length_out h p q) (known k a g j l o u v) = absurd (omega arith)
  add_unique (length_out h p q) (short k a g l r u v) = absurd (omega arith)
  add_unique (length_out h p q) (added k a g l r m u v) = absurd (omega arith)
  add_unique (book h f t q) (length_out k u v) = absurd (omega arith)
  add_unique (book h f t q) (book k g u v) = (tells_unique (take n d) t u, q ∙ sym v)
  add_unique (book h f t q) (body k a u v) = absurd (f a)
  add_unique (book h f t q) (known k a g j l o u v) = absurd (f a)
  add_unique (book h f t q) (short k a g l r u v) = absurd (f a)
  add_unique (book h f t q) (added k a g l r m u v) = absurd (f a)
  add_unique (body h f t q) (length_out k u v) = absurd (omega arith)
  add_unique (body h f t q) (book k g u v) = absurd (g f)
  add_unique (body h f t q) (body k a u v) = (body_unique t u, q ∙ sym v)
  add_unique (body h f t q) (known k a g j l o u v) = absurd (finished_no g t)
  add_unique (body h f t q) (short k a g l r u v) = absurd (finished_no g t)
  add_unique (body h f t q) (added k a g l r m u v) = absurd (finished_no g t)
  add_unique (known h f i w z o p q) (length_out k u v) = absurd (omega arith)
  add_unique (known h f i w z o p q) (book k g u v) = absurd (g f)
  add_unique (known h f i w z o p q) (body k a u v) = absurd (finished_no i u)
  add_unique (known h f i w z o p q) (known k a g j l c u v) = (p ∙ sym u, q ∙ sym v)
  add_unique (known h f i w z o p q) (short k a g l r u v) = absurd (l w z o)
  add_unique (known h f i w z o p q) (added k a g l r m u v) = absurd (l w z o)
  add_unique (short h f i w z p q) (length_out k u v) = absurd (omega arith)
  add_unique (short h f i w z p q) (book k g u v) = absurd (g f)
  add_unique (short h f i w z p q) (body k a u v) = absurd (finished_no i u)
  add_unique (short h f i w z p q) (known k a g j l o u v) = absurd (w j l o)
  add_unique (short h f i w z p q) (short k a g l r u v) = (p ∙ sym u, q ∙ sym v)
  add_unique (short h f i w z p q) (added k a g l r m u v) = absurd (no_room z r m)
  add_unique (added h f i w z c p q) (length_out k u v) = absurd (omega arith)
  add_unique (added h f i w z c p q) (book k g u v) = absurd (g f)
  add_unique (added h f i w z c p q) (body k a u v) = absurd (finished_no i u)
  add_unique (added h f i w z c p q) (known k a g j l o u v) = absurd (w j l o)
  add_unique (added h f i w z c p q) (short k a g l r u v) = absurd (no_room r z c)
  add_unique (added h f i w z c p q) (added k a g l r m u v) = (p ∙ sym u, q ∙ sym v)

  pub added_unique : (r q : Result ℕ BookRefusal) {e f : List ℕ} → AddTells d n b (added_says r) e → AddTells d n b (added_says q) f → (r ≡ q) × (e ≡ f)
  added_unique r q t u = let w = add_unique t u in (length_unique r q w.0, w.1)

-- ---- whether a body may be added
module _ (s b : List ℕ) where
  apart : {c : ℕ} {k : Fault} → VerdictTells s b (Ok c) → VerdictTells s b (Err (Other k)) → ⊥
  apart t u = t.3 u.3.0 u.3.1 u.3.2

  -- a reason, and no reason
  refused : (why : Reason) → VerdictTells s b (Err (Malformed why)) → Accepted s → Finished b → ⊥
  refused why (inl w) a f = w.0 a
  refused why (inr w) a f = finished_no f w.1

  why_unique : (why wer : Reason) → VerdictTells s b (Err (Malformed why)) → VerdictTells s b (Err (Malformed wer)) → why ≡ wer
  why_unique why wer (inl w) (inl z) = reason_unique why wer (tells_unique s w.1 z.1)
  why_unique why wer (inl w) (inr z) = absurd (w.0 z.0)
  why_unique why wer (inr w) (inl z) = absurd (z.0 w.0)
  why_unique why wer (inr w) (inr z) = reason_unique why wer (body_unique w.1 z.1)

  pub verdict_unique : (r q : Result ℕ BookRefusal) → VerdictTells s b r → VerdictTells s b q → r ≡ q
  verdict_unique (Ok c) (Ok k) t u = ap Ok (t.0 ∙ sym u.0)
  verdict_unique (Ok c) (Err (Malformed why)) t u = absurd (refused why u t.1 t.2)
  verdict_unique (Ok c) (Err (Other k)) t u = absurd (apart {k = k} t u)
  verdict_unique (Err (Malformed why)) (Ok k) t u = absurd (refused why t u.1 u.2)
  verdict_unique (Err (Malformed why)) (Err (Malformed wer)) t u = ap (λ w. Err (Malformed w)) (why_unique why wer t u)
  verdict_unique (Err (Malformed why)) (Err (Other k)) t u = absurd (refused why t u.1 u.2)
  verdict_unique (Err (Other j)) (Ok k) t u = absurd (apart {k = j} u t)
  verdict_unique (Err (Other j)) (Err (Malformed why)) t u = absurd (refused why u t.1 t.2)
  verdict_unique (Err (Other j)) (Err (Other k)) t u = ap (λ w. Err (Other w)) (t.0 ∙ sym u.0)
