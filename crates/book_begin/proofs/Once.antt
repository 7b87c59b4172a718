-- Two outcomes of beginning a book that meet the contract are equal: what is said, the slice, and the five numbers (begin_unique,
-- begin_says_unique). A refusal leaves the slice as it was (begin_kept).
use mathlib.Core.Path.{◌≡◌, ◌∙◌, sym, ap}
use mathlib.Core.Logic.{◌≢◌}
use mathlib.Core.List.{List}
use Prim.Native.Nat.{ℕ}
use native.Mathlib.Omega.{arith}
use Rattle.base_answers.specs.Said.{Said}
use Rattle.book_numbers.proofs.Same.{same_numbers}
use Rattle.book_begin.specs.Begin.{BeginTells, short, begun, BeginSays}

pub begin_unique : {d : List ℕ} {x y : Said} {e f : List ℕ} → BeginTells d x e → BeginTells d y f → (x ≡ y) × (e ≡ f)
begin_unique (short h p q) (short k u v) = (p ∙ sym u, q ∙ sym v)
begin_unique (short h p q) (begun k u v) = absurd (omega arith)
begin_unique (begun h p q) (short k u v) = absurd (omega arith)
begin_unique (begun h p q) (begun k u v) = (p ∙ sym u, q ∙ sym v)

pub begin_kept : {d : List ℕ} {x : Said} {e : List ℕ} → BeginTells d x e → x.number ≢ 0 → e ≡ d
begin_kept (short h p q) f = q
begin_kept (begun h p q) f = absurd (f (ap (λ (z : Said). z.number) p))

pub begin_says_unique : {d e e' o o' : List ℕ} → BeginSays d e o → BeginSays d e' o' → (e ≡ e') × (o ≡ o')
begin_says_unique t u = let w = begin_unique t.tells u.tells in (w.1, same_numbers w.0 t.written u.written)
