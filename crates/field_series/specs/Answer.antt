-- What `series` and `open_with_series` answer.
--   Fits r w                       the lent lists are equally long, and not over 4,096 long (`longest`)
--   Answer p G H r w r' w' n       the whole outcome: refusals 1 to 8, then 14 where the lists do not fit, both with the lists as they were;
--                                  beside 0 exactly the first coefficients of r and of w, as many as the lists have places
--   Opening p G H f                an accepted field, opened: what `with_series` asks
--   OpenedAnswer                   document 01's answer: the refusal's number, 0 for none, with the opened field beside it
--   nothing, refused n             zeros; the answer beside the refusal n
--   told r                         the answer that a result tells
--   Expands p G H o                the whole answer: refusals 1 to 8, then the opened field with its first 32 coefficients of r and w
-- In proofs/Answer.antt: `answer_unique` and `expands_unique`, two outcomes that meet it are equal; `told_one`, and so are two results that tell one answer; `expands_number`, `expands_holding`, what the number
-- beside the opened field says.
use Rattle.std.specs.Prelude.{◌≡◌, List, ℕ, ◌≤◌, length, replicate, Result, Ok, Err}
use Rattle.base_answers.specs.declared.Fault.{Fault}
use Rattle.base_answers.specs.Faults.{fault_number}
use Rattle.base_answers.specs.Limits.{longest}
use Rattle.field_open.specs.Refusal.{Accepted}
use Rattle.field_open.specs.Door.{Door}
use Rattle.field_open.specs.declared.Field.{Field}
use Rattle.field_open.specs.Opening as F
use Rattle.field_roots.specs.SeriesOf.{SeriesOf}
use Rattle.field_series.specs.Keeps.{Holding}
use Rattle.field_series.specs.declared.OpenedField.{OpenedField}

pub record Fits (r w : List ℕ) : Type 0 where
  pub even : length w ≡ length r
  pub short : length r ≤ longest

-- the outcome beside the refusal k
pub record Refused (r w r' w' : List ℕ) (n k : ℕ) : Type 0 where
  pub number : n ≡ k
  pub kept : (r' ≡ r) × (w' ≡ w)

module _ (p : ℕ) (G H r w r' w' : List ℕ) (n : ℕ) where
  -- an accepted field: 14 for the lists, then both filled
  pub data Goes : Type 0 where
    unfit : (Fits r w → ⊥) → Refused r w r' w' n 14 → Goes
    filled : Fits r w → n ≡ 0 → length r' ≡ length r → SeriesOf p G H r' w' → Goes

  abbrev pub Answer : Type 0
  Answer = Door p G H (Refused r w r' w' n) Goes

pub record OpenedAnswer : Type 0 where
  pub refusal : ℕ
  pub cubic : OpenedField

abbrev pub nothing : OpenedField
nothing = record { field = F.nothing; r = replicate 32 0; w = replicate 32 0 }

abbrev pub refused : ℕ → OpenedAnswer
refused n = record { refusal = n; cubic = nothing }

abbrev pub told : Result OpenedField Fault → OpenedAnswer
told (Ok c) = record { refusal = 0; cubic = c }
told (Err k) = refused (fault_number k)

pub record Opening (p : ℕ) (G H : List ℕ) (f : Field) : Type 0 where
  pub accepted : Accepted p G H
  pub held : F.Held p G H f

abbrev pub Expands : ℕ → List ℕ → List ℕ → OpenedAnswer → Type 0
Expands p G H o = Door p G H (λ n. o ≡ refused n) ((o.refusal ≡ 0) × Holding p G H o.cubic)
