-- What the check of 119 numbers answers (document 01: refusal 9).
--   Checks p G H B n   the number: refusals 1 to 8, then 9 where B is no record of the field, else 0
-- In proofs/Answer.antt: `checks_unique`, two answers that meet it are equal.
use Rattle.std.specs.Prelude.{◌≡◌, List, ℕ}
use Rattle.field_open.specs.Door.{Door}
use Rattle.basis_record.specs.Record.{IsRecord}

module _ (p : ℕ) (G H B : List ℕ) (n : ℕ) where
  -- an accepted field: 9 for the record, else 0
  pub data Goes : Type 0 where
    no_record : (IsRecord p G H B → ⊥) → n ≡ 9 → Goes
    is_a_record : IsRecord p G H B → n ≡ 0 → Goes

  abbrev pub Checks : Type 0
  Checks = Door p G H (λ k. n ≡ k) Goes
