-- The step's answer.
--   answers_unique                             two answers that meet it are equal
--   told_one                                   two results that tell one answer are equal
--   answers_no_record next_of answers_next   what `step` answers in an opened field
use mathlib.Core.Path.{◌≡◌, refl, sym, ap, ◌∙◌, subst}
use mathlib.Core.Bool.{Bool, true, false}
use mathlib.Core.List.{List}
use Prim.Native.Nat.{ℕ}
use Rattle.std.specs.declared.result.Result.{Result}
use Rattle.std.specs.declared.result.Result.TheVariants.{Ok, Err}
use Rattle.base_answers.specs.declared.Fault.{Fault}
use Rattle.base_answers.proofs.Faults.{some_number, number_one}
use Rattle.base_answers.specs.Decides.{Decides}
use Rattle.field_open.specs.Refusal.{Accepted}
use Rattle.field_open.proofs.Door.{door_goes, door_unique}
use Rattle.basis_record.specs.Record.{IsRecord}
use Rattle.field_series.specs.Answer.{Expands, OpenedAnswer}
use Rattle.field_series.proofs.Answer.{expands_number}
use Rattle.basis_field.proofs.Known.{prime_of, kept_of}
use Rattle.basis_accept.specs.Answer.{Accepts}
use Rattle.step_next.specs.InField.{StepInFieldAsks, StepInFieldGives}
use Rattle.step_next.specs.declared.StepTaken.{StepTaken}
use Rattle.step_next.proofs.Once.{steps_unique}
use Rattle.door_step.specs.Answer.{StepAnswer, refused, told, Goes, no_record, taken, Answers}

module _ {p : ℕ} {G H B : List ℕ} where
  goes_unique : Accepted p G H → (s s' : StepAnswer) → Goes p G H B s → Goes p G H B s' → s ≡ s'
  goes_unique A s s' (no_record n e) (no_record n' e') = e ∙ sym e'
  goes_unique A s s' (no_record n e) (taken r z t) = absurd (n r)
  goes_unique A s s' (taken r z t) (no_record n e) = absurd (n r)
  goes_unique A s s' (taken r z t) (taken r' z' t') =
      let e : ◌≡◌ {A = StepTaken} (record { degree = s.degree; basis = s.basis }) (record { degree = s'.degree; basis = s'.basis }) = steps_unique A r t t' in
      let n : s.refusal ≡ s'.refusal = z ∙ sym z' in
      λ i. record { refusal = n i; degree = (e i).degree; basis = (e i).basis }

  pub answers_unique : (s s' : StepAnswer) → Answers p G H B s → Answers p G H B s' → s ≡ s'
  answers_unique s s' = door_unique (λ n e f. e ∙ sym f) (λ A. goes_unique A s s')

pub told_one : (r s : Result StepTaken Fault) → told r ≡ told s → r ≡ s
told_one (Ok x) (Ok y) e = λ i. Ok (record { degree = (e i).degree; basis = (e i).basis })
told_one (Ok x) (Err k) e = absurd (some_number k (sym (ap (λ (o : StepAnswer). o.refusal) e)))
told_one (Err j) (Ok y) e = absurd (some_number j (ap (λ (o : StepAnswer). o.refusal) e))
told_one (Err j) (Err k) e = ap Err (number_one j k (ap (λ (o : StepAnswer). o.refusal) e))

-- ---- what `step` does in an opened field
module _ {p : ℕ} {G H B : List ℕ} {e : OpenedAnswer} (opens : Expands p G H e) (z : e.refusal ≡ 0) {good : Bool} (tested : Accepts e.cubic B good) where
  -- of the struct's own p, which is p
  decided : Decides good (IsRecord e.cubic.field.p G H B)
  decided = tested G H (kept_of opens z)

  pub answers_no_record : good ≡ false → {s : StepAnswer} → s ≡ refused 9 → Answers p G H B s
  answers_no_record f q = door_goes (expands_number opens) z (no_record (subst (λ q. IsRecord q G H B → ⊥) (prime_of opens z) (decided.no! f)) q)

  module _ (t : good ≡ true) where
    pub next_of : StepInFieldAsks e.cubic B
    next_of = record { G = G; H = H; keeps = kept_of opens z; is_a_record = decided.yes! t }

    pub answers_next : (o : StepTaken) → StepInFieldGives e.cubic B o → Answers p G H B (record { refusal = 0; degree = o.degree; basis = o.basis })
    answers_next o out =
        door_goes (expands_number opens) z (subst (λ q. Goes q G H B (record { refusal = 0; degree = o.degree; basis = o.basis })) (prime_of opens z)
        (taken (decided.yes! t) refl (out G H (kept_of opens z) (decided.yes! t))))
