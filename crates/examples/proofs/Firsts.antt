-- The lines that need no basis: refusals, series, the book.
--   refuses_one, series_sound, empty_book_holds, no_book_sound
use mathlib.Core.Path.{refl, sym, ◌∙◌}
use mathlib.Core.Logic.{◌≢◌, inl, inr}
use mathlib.Core.Bool.{Bool, true}
use mathlib.Core.List.{List, [], ◌∷◌}
use Prim.Native.Nat.{ℕ, zero, suc, ◌%◌, ◌<◌, ◌≤◌}
use native.Mathlib.Omega.{arith}
use lib.Dec.{T, eqb, ltb, leb, eqb→eq, ltb→lt, leb→le}
use lib.ListN.{length, get_or}
use Rattle.math_fp.specs.Trial.{primeb}
use Rattle.math_fp.proofs.Trial.{primeb_sound}
use Rattle.num_prime.specs.Table.{largest}
use Rattle.field_open.specs.Refusal.{Fault1, Refusal, Accepted}
use Rattle.field_open.specs.Opening.{Opens, nothing}
use Rattle.field_open.proofs.Accept.{accepted_none}
use Rattle.field_open.proofs.Door.{door_refused}
use Rattle.field_open.proofs.Opening.{opens_unique}
use Rattle.field_series.specs.Answer as filled
use Rattle.field_series.proofs.Answer.{done, answer_unique}
use Rattle.book_bytes.specs.Bytes.{val}
use Rattle.book_check.specs.Book.{ends}
use Rattle.book_check.specs.Book as book
use Rattle.book_check.specs.Answer.{answer_says, Tells, mark, fine}
use Rattle.std.specs.declared.result.Result.{Result}
use Rattle.std.specs.declared.result.Result.TheVariants.{Ok, Err}
use Rattle.book_judge.specs.declared.Reason.{Reason}
use Rattle.book_judge.specs.declared.Reason.TheVariants.{Mark}
use Rattle.book_check.proofs.One as one
use Rattle.examples_tests.specs.Tests.{every, begins}
use Rattle.examples_tests.proofs.Fields.{every_at, accepted_of, series_of}
use Rattle.examples_tests.proofs.Bases.{or_cases}
use Rattle.examples_table.specs.Lines.{Input, series, begun_book, no_book}
use Rattle.examples_table.specs.Decide.{Hints, refused, field, decide}
use Rattle.examples.specs.Lines.{Only, Refuses, Holds}

-- ---- refusals 1 and 2
refused_is : (p n : ℕ) → T (refused p n) → (G H : List ℕ) → Refusal p G H n
unfolding Refusal
refused_is p zero t G H = absurd t
refused_is p (suc zero) t G H = elim (or_cases (ltb p 5) (ltb largest p) t) [
  | inl a ↦ inl (inl (ltb→lt p 5 a), refl)
  | inr a ↦ inl (inr (inl (ltb→lt 65535 p a)), refl)
]
refused_is p (suc (suc zero)) t G H = inr (good, inl (eqb→eq (p % 3) 1 (at 3), refl))
  where
    at : (i : ℕ) → T (get_or (primeb p ∷ leb 5 p ∷ leb p largest ∷ eqb (p % 3) 1 ∷ []) i true)
    at = every_at (primeb p ∷ leb 5 p ∷ leb p largest ∷ eqb (p % 3) 1 ∷ []) t

    good : Fault1 p → ⊥
    good (inl f) = omega (arith, leb→le 5 p (at 1))
    good (inr (inl f)) = omega (arith, leb→le p 65535 (at 2))
    good (inr (inr f)) = f (primeb_sound p (at 0))
refused_is p (suc (suc (suc n))) t G H = absurd t

refused_some : (p n : ℕ) → T (refused p n) → n ≢ 0
refused_some p zero t e = t
refused_some p (suc n) t e = omega arith

pub refuses_one : (p n : ℕ) → T (refused p n) → (G H : List ℕ) → Refuses p G H n
refuses_one p n t G H =
    let m : Opens p G H (record { refusal = n; field = nothing }) = door_refused (refused_is p n t G H) (refused_some p n t) refl in
    record { meets = m; alone = λ o h. opens_unique o (record { refusal = n; field = nothing }) h m }

-- ---- series
pub series_sound : (k : Input) (r w : List ℕ) (h : Hints) → T (decide (series k r w) h) → Holds (series k r w)
series_sound k r w h t r₀ w₀ sr sw =
    let list : List Bool = field k h ∷ every (begins k.p k.G k.H r w) ∷ leb (length r) 4096 ∷ [] in
    let at : (i : ℕ) → T (get_or list i true) = every_at list t in
    let A : Accepted k.p k.G k.H = accepted_of k.p k.G k.H (at 0) in
    let l : length r ≤ 4096 = leb→le (length r) 4096 (at 2) in
    let m : filled.Answer k.p k.G k.H r₀ w₀ r w 0 = done (accepted_none k.p k.G k.H A) refl (record { even = sw ∙ sym sr; short = omega arith }) (record { size = sym sr; series = series_of k.p k.G k.H r w (at 1) }) in
    record { meets = m; alone = λ o a. let (x, y, z) = answer_unique o.1 o.2 r w a m in λ i. (x i, y i, z i) }

-- ---- the book
empty_passes : book.Accepted (80 ∷ 67 ∷ 70 ∷ 49 ∷ 0 ∷ 0 ∷ [])
unfolding val ends
empty_passes = record {
  marked = record { low = omega arith; high = omega arith; mark = refl };
  listed = record { starts = λ i l. absurd (omega (arith, l)); whole = refl };
  good = λ i l. absurd (omega (arith, l));
}

-- the check of a book has one answer
tells : (s : List ℕ) (a : Result (Unit {0}) Reason) → Tells s (answer_says a) → Only (λ a. Tells s (answer_says a)) a
tells s a t = record { meets = t; alone = λ b u. one.answer_unique b a (one.tells_unique s u t) }

pub empty_book_holds : Holds begun_book
empty_book_holds = tells (80 ∷ 67 ∷ 70 ∷ 49 ∷ 0 ∷ 0 ∷ []) (Ok tt) (fine empty_passes refl)

pub no_book_sound : (n : ℕ) → T (ltb n 6) → Holds (no_book n)
no_book_sound n t s e = tells s (Err Mark) (mark (λ m. let l : n < 6 = ltb→lt n 6 t in omega (arith, m.low)) refl)
