-- The pairs settle the answers.
--   refusals_unique   one number of a refusal
--   compares_unique   one answer to comparing two pairs
--   told_one          two results that tell one answer are equal
use mathlib.Core.Path.{◌≡◌, sym, ap, ◌∙◌}
use mathlib.Core.List.{List}
use Prim.Native.Nat.{ℕ}
use Rattle.base_answers.proofs.Tests.{decides_unique}
use Rattle.pair_laws.specs.OneField.{OneField}
use Rattle.std.specs.declared.result.Result.{Result}
use Rattle.std.specs.declared.result.Result.TheVariants.{Ok, Err}
use mathlib.Core.Bool.{Bool}
use Rattle.base_answers.specs.declared.Fault.{Fault}
use Rattle.base_answers.proofs.Faults.{some_number, number_one}
use Rattle.door_compare.specs.Answer.{CompareAnswer, told, Refusals, Compares}
use Rattle.door_compare.proofs.Doors.{doors_unique}

compared_eq : (a b : CompareAnswer) → a.refusal ≡ b.refusal → a.same ≡ b.same → a ≡ b
compared_eq a b e f = λ i. record { refusal = e i; same = f i }

pub told_one : (r s : Result Bool Fault) → told r ≡ told s → r ≡ s
told_one (Ok x) (Ok y) e = ap (λ (o : CompareAnswer). Ok o.same) e
told_one (Ok x) (Err k) e = absurd (some_number k (sym (ap (λ (o : CompareAnswer). o.refusal) e)))
told_one (Err j) (Ok y) e = absurd (some_number j (ap (λ (o : CompareAnswer). o.refusal) e))
told_one (Err j) (Err k) e = ap Err (number_one j k (ap (λ (o : CompareAnswer). o.refusal) e))

module _ {p : ℕ} {G H G' H' : List ℕ} where
  pub refusals_unique : {m n : ℕ} → Refusals p G H G' H' m → Refusals p G H G' H' n → m ≡ n
  refusals_unique = doors_unique (λ k e f. e ∙ sym f) (λ t e f. e ∙ sym f)

  pub compares_unique : {a b : CompareAnswer} → Compares p G H G' H' a → Compares p G H G' H' b → a ≡ b
  compares_unique {a} {b} = doors_unique (λ k e f. e ∙ sym f) (λ t (e, d) (f, d'). compared_eq a b (e ∙ sym f) (decides_unique a.same b.same (OneField p G H G' H') d d'))
