-- What the step answers.
--   StepAnswer            document 01's answer: the refusal's number, 0 for none, with the degree and the next record beside it
--   refused n             the answer beside the refusal n: zeros
--   told r                the answer that a result tells
--   Answers p G H B s     the whole answer to a step from the record B: the refusals 1 to 8, then 9, then the step
-- In proofs/Answers.antt: `answers_unique`, two answers that meet it are equal; `told_one`, and so are two results that tell one answer.
use Rattle.std.specs.Prelude.{◌≡◌, List, ℕ, Result, Ok, Err}
use Rattle.base_answers.specs.declared.Fault.{Fault}
use Rattle.base_answers.specs.Faults.{fault_number}
use Rattle.base_answers.specs.Limits.{blank}
use Rattle.field_open.specs.Door.{Door}
use Rattle.basis_record.specs.Record.{IsRecord}
use Rattle.step_next.specs.Steps.{Steps}
use Rattle.step_next.specs.declared.StepTaken.{StepTaken}

pub record StepAnswer : Type 0 where
  pub refusal : ℕ
  pub degree : ℕ
  pub basis : List ℕ

abbrev pub refused : ℕ → StepAnswer
refused n = record { refusal = n; degree = 0; basis = blank }

abbrev pub told : Result StepTaken Fault → StepAnswer
told (Ok s) = record { refusal = 0; degree = s.degree; basis = s.basis }
told (Err k) = refused (fault_number k)

module _ (p : ℕ) (G H B : List ℕ) where
  -- an accepted field: 9 for the record, then the step itself
  pub data Goes (s : StepAnswer) : Type 0 where
    no_record : (IsRecord p G H B → ⊥) → s ≡ refused 9 → Goes s
    taken : IsRecord p G H B → s.refusal ≡ 0 → Steps p G H B (record { degree = s.degree; basis = s.basis }) → Goes s

  abbrev pub Answers : StepAnswer → Type 0
  Answers s = Door p G H (λ n. s ≡ refused n) (Goes s)
