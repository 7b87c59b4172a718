-- The outcome of writing a body is settled by the body and the slice.
--   write_unique   what is said, and the slice
--   wrote_unique   the answer itself, and the slice
--   write_kept     a refusal leaves the slice as it was
use mathlib.Core.Path.{◌≡◌, sym, ap, ◌∙◌}
use mathlib.Core.Logic.{◌≢◌}
use mathlib.Core.List.{List}
use Prim.Native.Nat.{ℕ, ◌≤◌}
use native.Mathlib.Omega.{arith}
use Rattle.field_open.proofs.Stages.{refusal_unique}
use Rattle.base_answers.specs.Said.{Said, refused}
use Rattle.base_answers.proofs.Said.{number_of}
use Rattle.book_body.specs.Body.{Body, FieldSays}
use Rattle.book_write.specs.Write.{wrote_says, WriteTells, field, rule, short, done}
use Rattle.std.specs.declared.result.Result.{Result}
use Rattle.book_judge.specs.declared.BookRefusal.{BookRefusal}
use Rattle.book_judge.proofs.Says.{length_unique}

pub write_kept : {b : Body} {d e : List ℕ} {x : Said} → WriteTells b d x e → x.number ≢ 0 → e ≡ d
write_kept (field n h s p q) f = q
write_kept (rule s r p q) f = q
write_kept (short s r l p q) f = q
write_kept (done s r l p q) f = absurd (f (number_of p))

module _ (b : Body) (d : List ℕ) where
  one_field : (n m : ℕ) → FieldSays b n → FieldSays b m → n ≡ m
  one_field = refusal_unique b.p b.G b.H

  pub write_unique : {x y : Said} {e f : List ℕ} → WriteTells b d x e → WriteTells b d y f → (x ≡ y) × (e ≡ f)
  write_unique (field n h o p q) (field m k u v w) = (p ∙ ap refused (one_field n m o u) ∙ sym v, q ∙ sym w)
  write_unique (field n h o p q) (rule u k v w) = absurd (h (one_field n 0 o u))
  write_unique (field n h o p q) (short u k l v w) = absurd (h (one_field n 0 o u))
  write_unique (field n h o p q) (done u k l v w) = absurd (h (one_field n 0 o u))
  write_unique (rule o h p q) (field m k u v w) = absurd (k (one_field m 0 u o))
  write_unique (rule o h p q) (rule u k v w) = (p ∙ sym v, q ∙ sym w)
  write_unique (rule o h p q) (short u k l v w) = absurd (h k)
  write_unique (rule o h p q) (done u k l v w) = absurd (h k)
  write_unique (short o h i p q) (field m k u v w) = absurd (k (one_field m 0 u o))
  write_unique (short o h i p q) (rule u k v w) = absurd (k h)
  write_unique (short o h i p q) (short u k l v w) = (p ∙ sym v, q ∙ sym w)
  write_unique (short o h i p q) (done u k l v w) = absurd (omega arith)
  write_unique (done o h i p q) (field m k u v w) = absurd (k (one_field m 0 u o))
  write_unique (done o h i p q) (rule u k v w) = absurd (k h)
  write_unique (done o h i p q) (short u k l v w) = absurd (omega arith)
  write_unique (done o h i p q) (done u k l v w) = (p ∙ sym v, q ∙ sym w)

  pub wrote_unique : (r q : Result ℕ BookRefusal) {e f : List ℕ} → WriteTells b d (wrote_says r) e → WriteTells b d (wrote_says q) f → (r ≡ q) × (e ≡ f)
  wrote_unique r q t u = let w = write_unique t u in (length_unique r q w.0, w.1)
