-- What is said settles what is refused.
--   thirteen         a reason is told by 13
--   reason_unique    two reasons that say the same are equal
--   refusal_number   no refusal says 0
--   refusal_unique   two refusals that say the same are equal
--   length_unique    two answers with a length that say the same are equal
use mathlib.Core.Path.{◌≡◌, refl, sym, ap, ap₂}
use mathlib.Core.Logic.{◌≢◌}
use Prim.Native.Nat.{ℕ}
use native.Mathlib.Omega.{arith}
use Rattle.std.specs.declared.result.Result.{Result}
use Rattle.std.specs.declared.result.Result.TheVariants.{Ok, Err}
use Rattle.base_answers.specs.Said.{Said}
use Rattle.base_answers.proofs.Said.{number_of, result_of}
use Rattle.base_answers.proofs.Faults.{some_number, number_one}
use Rattle.book_judge.specs.Reasons.{reason_says, refusal_says, length_says}
use Rattle.book_judge.specs.declared.Reason.{Reason}
use Rattle.book_judge.specs.declared.Reason.TheVariants.{Mark, Contents, BodyRule, Field, Twice}
use Rattle.book_judge.specs.declared.BookRefusal.{BookRefusal}
use Rattle.book_judge.specs.declared.BookRefusal.TheVariants.{Malformed, Other}

pub thirteen : (why : Reason) → (reason_says why).number ≡ 13
thirteen Mark = refl
thirteen Contents = refl
thirteen (BodyRule i) = refl
thirteen (Field i n) = refl
thirteen (Twice i j) = refl

some_reason : (why : Reason) → (reason_says why).reason ≢ 0
some_reason Mark e = omega arith
some_reason Contents e = omega arith
some_reason (BodyRule i) e = omega arith
some_reason (Field i n) e = omega arith
some_reason (Twice i j) e = omega arith

same : (a b : Reason)
    → (reason_says a).reason ≡ (reason_says b).reason → (reason_says a).entry ≡ (reason_says b).entry → (reason_says a).other ≡ (reason_says b).other
    → a ≡ b
same Mark Mark r e o = refl
same Mark Contents r e o = absurd (omega arith)
same Mark (BodyRule k) r e o = absurd (omega arith)
same Mark (Field k m) r e o = absurd (omega arith)
same Mark (Twice k l) r e o = absurd (omega arith)
same Contents Mark r e o = absurd (omega arith)
same Contents Contents r e o = refl
same Contents (BodyRule k) r e o = absurd (omega arith)
same Contents (Field k m) r e o = absurd (omega arith)
same Contents (Twice k l) r e o = absurd (omega arith)
same (BodyRule i) Mark r e o = absurd (omega arith)
same (BodyRule i) Contents r e o = absurd (omega arith)
same (BodyRule i) (BodyRule k) r e o = ap BodyRule e
same (BodyRule i) (Field k m) r e o = absurd (omega arith)
same (BodyRule i) (Twice k l) r e o = absurd (omega arith)
same (Field i n) Mark r e o = absurd (omega arith)
same (Field i n) Contents r e o = absurd (omega arith)
same (Field i n) (BodyRule k) r e o = absurd (omega arith)
same (Field i n) (Field k m) r e o = ap₂ Field e o
same (Field i n) (Twice k l) r e o = absurd (omega arith)
same (Twice i j) Mark r e o = absurd (omega arith)
same (Twice i j) Contents r e o = absurd (omega arith)
same (Twice i j) (BodyRule k) r e o = absurd (omega arith)
same (Twice i j) (Field k m) r e o = absurd (omega arith)
same (Twice i j) (Twice k l) r e o = ap₂ Twice e o

pub reason_unique : (a b : Reason) → reason_says a ≡ reason_says b → a ≡ b
reason_unique a b e = same a b (ap (λ (x : Said). x.reason) e) (ap (λ (x : Said). x.entry) e) (ap (λ (x : Said). x.other) e)

pub refusal_number : (r : BookRefusal) → (refusal_says r).number ≢ 0
refusal_number (Malformed why) e = let n : (reason_says why).number ≡ 13 = thirteen why in omega arith
refusal_number (Other k) e = some_number k e

pub refusal_unique : (r q : BookRefusal) → refusal_says r ≡ refusal_says q → r ≡ q
refusal_unique (Malformed a) (Malformed b) e = ap Malformed (reason_unique a b e)
refusal_unique (Malformed a) (Other k) e = absurd (some_reason a (ap (λ (x : Said). x.reason) e))
refusal_unique (Other k) (Malformed b) e = absurd (some_reason b (sym (ap (λ (x : Said). x.reason) e)))
refusal_unique (Other j) (Other k) e = ap Other (number_one j k (number_of e))

pub length_unique : (r q : Result ℕ BookRefusal) → length_says r ≡ length_says q → r ≡ q
length_unique (Ok n) (Ok m) e = ap Ok (result_of e)
length_unique (Ok n) (Err q) e = absurd (refusal_number q (sym (number_of e)))
length_unique (Err r) (Ok m) e = absurd (refusal_number r (number_of e))
length_unique (Err r) (Err q) e = ap Err (refusal_unique r q e)
