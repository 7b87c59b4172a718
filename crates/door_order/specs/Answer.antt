-- What the public function of the order's basis answers (document 01: "the basis of the order").
--   OrderAnswer        document 01's answer: the refusal's number, 0 for none, with the rows beside it
--   refused n          the answer beside the refusal n: zeros
--   told r             the answer that a result tells
--   Orders p G H o     the whole answer: refusals 1 to 8, then the record of the order
-- In proofs/Answer.antt: `orders_unique`, two answers that meet it are equal; `told_one`, and so are two results that tell one answer.
use Rattle.std.specs.Prelude.{◌≡◌, List, ℕ, Result, Ok, Err}
use Rattle.base_answers.specs.declared.Fault.{Fault}
use Rattle.base_answers.specs.Faults.{fault_number}
use Rattle.base_answers.specs.Limits.{blank}
use Rattle.field_open.specs.Door.{Door}
use Rattle.basis_field.specs.First.{IsFirst}

pub record OrderAnswer : Type 0 where
  pub refusal : ℕ
  pub basis : List ℕ

abbrev pub refused : ℕ → OrderAnswer
refused n = record { refusal = n; basis = blank }

abbrev pub told : Result (List ℕ) Fault → OrderAnswer
told (Ok b) = record { refusal = 0; basis = b }
told (Err k) = refused (fault_number k)

abbrev pub Orders : ℕ → List ℕ → List ℕ → OrderAnswer → Type 0
Orders p G H o = Door p G H (λ n. o ≡ refused n) ((o.refusal ≡ 0) × IsFirst p G H o.basis)
