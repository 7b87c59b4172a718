-- Two outcomes of writing a body from rows that meet the contract are equal: what is said, the slice, and the five numbers (rows_unique,
-- rows_says_unique). A refusal leaves the slice as it was (rows_kept).
use mathlib.Core.Path.{◌≡◌, ◌∙◌, sym, ap, subst}
use mathlib.Core.Logic.{◌≢◌}
use mathlib.Core.List.{List}
use Prim.Native.Nat.{ℕ}
use Rattle.base_answers.proofs.Limits.{six_unique}
use Rattle.base_answers.specs.Said.{Said, refused}
use Rattle.field_open.proofs.Stages.{refusal_unique}
use Rattle.book_write.specs.Write.{WriteTells}
use Rattle.book_write.proofs.One.{write_unique, write_kept}
use Rattle.book_numbers.proofs.Same.{same_numbers}
use Rattle.book_rows.specs.Rows.{body_of_rows, RowsTells, field, unfit, body, RowsSays}

module _ {p : ℕ} {G H : List ℕ} {t : ℕ} {l d : List ℕ} where
  pub rows_unique : {x y : Said} {e f : List ℕ} → RowsTells p G H t l d x e → RowsTells p G H t l d y f → (x ≡ y) × (e ≡ f)
  rows_unique (field s n h o a b) (field r m k u v w) = (a ∙ ap refused (refusal_unique p G H n m o u) ∙ sym v, b ∙ sym w)
  rows_unique (field s n h o a b) (unfit r u v w) = absurd (h (refusal_unique p G H n 0 o u))
  rows_unique (field s n h o a b) (body c r u) = absurd (s c r)
  rows_unique (unfit s o a b) (field r m k u v w) = absurd (k (refusal_unique p G H m 0 u o))
  rows_unique (unfit s o a b) (unfit r u v w) = (a ∙ sym v, b ∙ sym w)
  rows_unique (unfit s o a b) (body c r u) = absurd (s c r)
  rows_unique (body c s o) (field r m k u v w) = absurd (r c s)
  rows_unique (body c s o) (unfit r u v w) = absurd (r c s)
  rows_unique {y = y} {f = f} (body c s o) (body k r u) =
      write_unique (body_of_rows p G H t c l) d o (subst (λ z. WriteTells (body_of_rows p G H t z l) d y f) (six_unique r s) u)

  pub rows_kept : {x : Said} {e : List ℕ} → RowsTells p G H t l d x e → x.number ≢ 0 → e ≡ d
  rows_kept (field s n h o a b) f = b
  rows_kept (unfit s o a b) f = b
  rows_kept (body c s o) f = write_kept o f

  pub rows_says_unique : {e e' o o' : List ℕ} → RowsSays p G H t l d e o → RowsSays p G H t l d e' o' → (e ≡ e') × (o ≡ o')
  rows_says_unique q u = let w = rows_unique q.tells u.tells in (w.1, same_numbers w.0 q.written u.written)
