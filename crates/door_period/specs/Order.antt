-- The walk from the order: period and regulator.
--   PeriodAnswer               document 01's answer: the refusal's number, 0 for none, with period and regulator beside it
--   refusal n                  the answer beside the refusal n: the other results are 0
--   told r                     the answer that a result tells
--   FromOrder p G H n o        the whole answer to a walk of at most n steps from the order of the field p, G, H: the refusals 1 to 8;
--                              14 for a budget over 1,000,000; 10 where no count from 1 to n closes; else the period, which is the
--                              first count that closes, and the regulator, which is half the sum of the degrees passed
-- `from_order_unique` in proofs/Order.antt: two answers that meet it are equal; `told_one`: and so are two results that tell one answer.
use Rattle.std.specs.Prelude.{◌≡◌, List, ℕ, ◌+◌, ◌≤◌, ◌<◌, Result, Ok, Err}
use Rattle.base_answers.specs.declared.Fault.{Fault}
use Rattle.base_answers.specs.declared.Period.{Period}
use Rattle.base_answers.specs.declared.Regulator.{Regulator}
use Rattle.base_answers.specs.Faults.{fault_number}
use Rattle.base_answers.specs.Limits.{most}
use Rattle.field_open.specs.Door.{Door}
use Rattle.basis_field.specs.First.{IsFirst}
use Rattle.walk_chain.specs.Walk.{Closes, StaysOpen}
use Rattle.base_answers.specs.declared.Cycle.{Cycle}

pub record PeriodAnswer : Type 0 where
  pub refusal : ℕ
  pub period : Period
  pub regulator : Regulator

abbrev pub refusal : ℕ → PeriodAnswer
refusal n = record { refusal = n; period = record { 0 = 0 }; regulator = record { 0 = 0 } }

abbrev pub told : Result Cycle Fault → PeriodAnswer
told (Ok c) = record { refusal = 0; period = c.period; regulator = c.regulator }
told (Err k) = refusal (fault_number k)

module _ (p : ℕ) (G H : List ℕ) (n : ℕ) where
  -- "From O, closing gives period = steps and regulator = half the sum"
  pub record Periodic (B : List ℕ) (o : PeriodAnswer) : Type 0 where
    pub last : List ℕ
    pub number : o.refusal ≡ 0
    pub within : o.period.0 ≤ n
    pub closes : Closes p G H B o.period.0 (o.regulator.0 + o.regulator.0) last

  pub data Goes (o : PeriodAnswer) : Type 0 where
    budget : most < n → o ≡ refusal 14 → Goes o
    closed : n ≤ most → (B : List ℕ) → IsFirst p G H B → Periodic B o → Goes o
    spent : n ≤ most → (B : List ℕ) → IsFirst p G H B → StaysOpen p G H B n → o ≡ refusal 10 → Goes o

  abbrev pub FromOrder : PeriodAnswer → Type 0
  FromOrder o = Door p G H (λ k. o ≡ refusal k) (Goes o)
