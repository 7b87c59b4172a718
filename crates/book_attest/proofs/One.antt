-- The bytes settle the answer to attesting.
--   attest_unique        what it says
--   attestation_unique   the answer itself
use mathlib.Core.Path.{◌≡◌, refl, sym, ap, ◌∙◌}
use mathlib.Core.Bool.{Bool, true, false}
use mathlib.Core.List.{List}
use Prim.Native.Nat.{ℕ}
use native.Mathlib.Omega.{arith}
use Rattle.base_answers.specs.Said.{Said}
use Rattle.base_answers.proofs.Said.{number_of, result_of}
use Rattle.std.specs.declared.result.Result.{Result}
use Rattle.std.specs.declared.result.Result.TheVariants.{Ok, Err}
use Rattle.book_check.proofs.One.{tells_unique}
use Rattle.book_judge.specs.declared.BookRefusal.{BookRefusal}
use Rattle.book_judge.proofs.Says.{refusal_number, refusal_unique}
use Rattle.book_attest.specs.Attest.{attest_says, AttestTells, book, no_entry, yes, no}

pub attest_unique : (s : List ℕ) (i : ℕ) (x y : Said) → AttestTells s i x → AttestTells s i y → x ≡ y
attest_unique s i x y (book f t) (book g u) = tells_unique s t u
attest_unique s i x y (book f t) (no_entry a l e) = absurd (f a)
attest_unique s i x y (book f t) (yes a l w e) = absurd (f a)
attest_unique s i x y (book f t) (no a l w e) = absurd (f a)
attest_unique s i x y (no_entry a l e) (book f t) = absurd (f a)
attest_unique s i x y (no_entry a l e) (no_entry b k g) = e ∙ sym g
attest_unique s i x y (no_entry a l e) (yes b k w g) = absurd (omega arith)
attest_unique s i x y (no_entry a l e) (no b k w g) = absurd (omega arith)
attest_unique s i x y (yes a l w e) (book f t) = absurd (f a)
attest_unique s i x y (yes a l w e) (no_entry b k g) = absurd (omega arith)
attest_unique s i x y (yes a l w e) (yes b k v g) = e ∙ sym g
attest_unique s i x y (yes a l w e) (no b k v g) = absurd (v w)
attest_unique s i x y (no a l w e) (book f t) = absurd (f a)
attest_unique s i x y (no a l w e) (no_entry b k g) = absurd (omega arith)
attest_unique s i x y (no a l w e) (yes b k v g) = absurd (w v)
attest_unique s i x y (no a l w e) (no b k v g) = e ∙ sym g

-- ---- what is said settles the code's answer
same_answer : (a b : Result Bool BookRefusal) → attest_says a ≡ attest_says b → a ≡ b
same_answer (Ok true) (Ok true) e = refl
same_answer (Ok true) (Ok false) e = let r = result_of e in absurd (omega arith)
same_answer (Ok false) (Ok true) e = let r = result_of e in absurd (omega arith)
same_answer (Ok false) (Ok false) e = refl
same_answer (Ok true) (Err q) e = absurd (refusal_number q (sym (number_of e)))
same_answer (Ok false) (Err q) e = absurd (refusal_number q (sym (number_of e)))
same_answer (Err r) (Ok true) e = absurd (refusal_number r (number_of e))
same_answer (Err r) (Ok false) e = absurd (refusal_number r (number_of e))
same_answer (Err r) (Err q) e = ap Err (refusal_unique r q e)

pub attestation_unique : (s : List ℕ) (i : ℕ) (a b : Result Bool BookRefusal) → AttestTells s i (attest_says a) → AttestTells s i (attest_says b) → a ≡ b
attestation_unique s i a b t u = same_answer a b (attest_unique s i (attest_says a) (attest_says b) t u)
