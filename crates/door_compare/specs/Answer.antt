-- Any two pairs of lists over one p.
--   Doors p G H G' H' Refused Goes   two doors, one after the other: `Refused n` where n is the first refusal of the first pair, or else of the
--                                    second; `Goes` where both are accepted
--   Refusals p G H G' H' n           n is the number of the first pair's refusal; where that pair is accepted, the number of the second's, or 0
--   CompareAnswer                    the refusal's number, 0 for none, with whether the pairs are of one field beside it
--   refused n                        the answer beside the refusal n
--   told r                           the answer that a result tells
--   Compares p G H G' H' a           the answer to comparing two pairs: a refusal, or whether they are of one field
-- In proofs/: Doors (`doors_unique`, the ways in and out), Once (`refusals_unique`, `compares_unique`: two outcomes that meet them are equal;
-- `told_one`: and so are two results that tell one answer).
use Rattle.std.specs.Prelude.{◌≡◌, Bool, false, List, ℕ, Result, Ok, Err}
use Rattle.base_answers.specs.declared.Fault.{Fault}
use Rattle.base_answers.specs.Faults.{fault_number}
use Rattle.base_answers.specs.Decides.{Decides}
use Rattle.field_open.specs.Door.{Door}
use Rattle.pair_laws.specs.OneField.{OneField}

pub record CompareAnswer : Type 0 where
  pub refusal : ℕ
  pub same : Bool

abbrev pub refused : ℕ → CompareAnswer
refused n = record { refusal = n; same = false }

abbrev pub told : Result Bool Fault → CompareAnswer
told (Ok b) = record { refusal = 0; same = b }
told (Err k) = refused (fault_number k)

module _ (p : ℕ) (G H G' H' : List ℕ) where
  abbrev pub Doors : (ℕ → Type 0) → Type 0 → Type 0
  Doors Refused Goes = Door p G H Refused (Door p G' H' Refused Goes)

  abbrev pub Refusals : ℕ → Type 0
  Refusals n = Doors (λ k. n ≡ k) (n ≡ 0)

  abbrev pub Compares : CompareAnswer → Type 0
  Compares a = Doors (λ k. a ≡ refused k) ((a.refusal ≡ 0) × Decides a.same (OneField p G H G' H'))
