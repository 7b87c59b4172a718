-- Carrying the six rows of a unit over from one convention to another (request E6: "going from one to the other and back returns the same
-- rows").
--   ScaledRows k p G H c rows   six rows of c numbers, c at most 4,096, that hold a unit of positive degree scaled by the convention k, and
--                           its inverse; every number is below p
--   Rescales p G H i j rows n rows'   the number handed out and the slice after it: 1 to 8; 14 where i or j names no convention or the rows
--                           are not so; 0 where they are turned into the rows of the same unit scaled by the convention j. A refusal
--                           leaves the slice as it was
-- `Turned` of crate unit_scale says what the rows are turned into. In proofs/: Once (`rescales_unique`: one outcome for each input), Back
-- (`rescales_back`: there and back; `rescales_holds`: what `unit` gives under one convention becomes what it gives under the other).
use Rattle.std.specs.Prelude.{◌≡◌, List, ℕ}
use Rattle.base_answers.specs.Limits.{Six}
use Rattle.field_open.specs.Refusal.{Accepted}
use Rattle.field_open.specs.Door.{Door}
use Rattle.math_chain.specs.Convention.{Convention, number, Scaled}
use Rattle.basis_record.specs.Record.{setting}
use Rattle.unit_finish.specs.Rows.{six, HoldsUnit}
use Rattle.unit_scale.specs.Scale.{Turned}

pub record ScaledRows (k : Convention) (p : ℕ) (G H : List ℕ) (c : ℕ) (rows : List ℕ) : Type 0 where
  pub the_six_rows : Six c rows
  pub holds : HoldsUnit p G H c rows
  pub scaled : (A : Accepted p G H) → Scaled (setting A) k (six A c 0 rows)

-- the outcome beside the refusal k
pub record Refused (rows : List ℕ) (n : ℕ) (rows' : List ℕ) (k : ℕ) : Type 0 where
  pub number : n ≡ k
  pub kept : rows' ≡ rows

module _ (p : ℕ) (G H : List ℕ) (i j : ℕ) (rows : List ℕ) (n : ℕ) (rows' : List ℕ) where
  -- an accepted field: 14, then the rows turned
  pub data Goes : Type 0 where
    unfit : ((k k' : Convention) (c : ℕ) → number k ≡ i → number k' ≡ j → ScaledRows k p G H c rows → ⊥) → Refused rows n rows' 14 → Goes
    turned : (k k' : Convention) (c : ℕ) → number k ≡ i → number k' ≡ j → ScaledRows k p G H c rows → n ≡ 0 → Turned k' p G H c rows rows' → Goes

  abbrev pub Rescales : Type 0
  Rescales = Door p G H (Refused rows n rows') Goes
