-- Carrying the six rows of a unit from one pair to another pair of the same field (request E3: "say how the rows of the unit carry over").
--   Transfers p G H G' H' rows n rows'   the number handed out and the slice after it: 1 to 8 of the first pair, 1 to 8 of the second, 14
--                                        where the slice has another length or the pairs are not of one field, 0 where the rows are carried
--                                        over; a refusal leaves the slice as it was
-- `Six c rows` (base_answers): six rows of c numbers. How rows carry over is `RowsCarry` of crate pair_laws. The rows may hold any numbers: that the rows of the one pair's unit become
-- those of the other's is a theorem about `RowsCarry` alone.
-- In proofs/: Once (`transfers_unique`: one outcome for each input), Back (`there_and_back`, `transfers_back`: rows carried over and back are the
-- rows), Rows (`rows_unique`: the pairs settle the rows; `carried_below`, `carried_each`: numbers below p).
use Rattle.std.specs.Prelude.{◌≡◌, List, ℕ, length}
use Rattle.base_answers.specs.Limits.{Six}
use Rattle.pair_laws.specs.OneField.{OneField}
use Rattle.pair_laws.specs.Rows.{RowsCarry}
use Rattle.door_compare.specs.Answer.{Doors}

-- the outcome beside the refusal k
pub record Refused (rows : List ℕ) (n : ℕ) (rows' : List ℕ) (k : ℕ) : Type 0 where
  pub number : n ≡ k
  pub kept : rows' ≡ rows

module _ (p : ℕ) (G H G' H' rows : List ℕ) (n : ℕ) (rows' : List ℕ) where
  -- two accepted pairs: 14 for the slice or the pairs, then the rows carried over
  pub data Goes : Type 0 where
    unfit : ((c : ℕ) → Six c rows → OneField p G H G' H' → ⊥) → Refused rows n rows' 14 → Goes
    carried : (c : ℕ) → Six c rows → n ≡ 0 → length rows' ≡ length rows → RowsCarry p G H G' H' c rows rows' → Goes

  abbrev pub Transfers : Type 0
  Transfers = Doors p G H G' H' (Refused rows n rows') Goes
