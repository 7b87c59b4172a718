-- Two outcomes of asking for a part of a body that meet the contract are equal: what is said, the slice, and the five numbers. A refusal
-- leaves the slice as it was (part_kept).
use mathlib.Core.Path.{◌≡◌, ◌∙◌, sym}
use mathlib.Core.Logic.{◌≢◌}
use mathlib.Core.List.{List}
use Prim.Native.Nat.{ℕ}
use Rattle.base_answers.specs.Said.{Said}
use Rattle.book_body.proofs.One.{list_unique, list_kept}
use Rattle.book_check.proofs.One.{body_unique, finished_no}
use Rattle.book_numbers.proofs.Same.{same_numbers}
use Rattle.book_parts.specs.Parts.{NumberTells, fault, told, PartTells, faulty, listed, PrimeSays, PeriodSays, ListSays}

pub number_unique : {s : List ℕ} {n : ℕ} {x y : Said} → NumberTells s n x → NumberTells s n y → x ≡ y
number_unique (fault f) (fault g) = body_unique f g
number_unique (fault f) (told g e) = absurd (finished_no g f)
number_unique (told g e) (fault f) = absurd (finished_no g f)
number_unique (told g e) (told h w) = e ∙ sym w

pub part_unique : {s : List ℕ} {k : ℕ} {d : List ℕ} {x y : Said} {e f : List ℕ}
    → PartTells s k d x e → PartTells s k d y f → (x ≡ y) × (e ≡ f)
part_unique (faulty f p) (faulty g q) = (body_unique f g, p ∙ sym q)
part_unique (faulty f p) (listed g t) = absurd (finished_no g f)
part_unique (listed g t) (faulty f p) = absurd (finished_no g f)
part_unique (listed g t) (listed h u) = list_unique t u

pub part_kept : {s : List ℕ} {k : ℕ} {d : List ℕ} {x : Said} {e : List ℕ} → PartTells s k d x e → x.number ≢ 0 → e ≡ d
part_kept (faulty g p) f = p
part_kept (listed g t) f = list_kept t f

pub prime_says_unique : {s o o' : List ℕ} → PrimeSays s o → PrimeSays s o' → o ≡ o'
prime_says_unique t u = same_numbers (number_unique t.tells u.tells) t.written u.written

pub period_says_unique : {s o o' : List ℕ} → PeriodSays s o → PeriodSays s o' → o ≡ o'
period_says_unique t u = same_numbers (number_unique t.tells u.tells) t.written u.written

pub list_says_unique : {s : List ℕ} {k : ℕ} {d e e' o o' : List ℕ} → ListSays s k d e o → ListSays s k d e' o' → (e ≡ e') × (o ≡ o')
list_says_unique t u = let w = part_unique t.tells u.tells in (w.1, same_numbers w.0 t.written u.written)
