-- A table of refusals, row by row.
--   Stage k Fault below n   either the fault is there and n is the row's number k, or it is not and the rows below decide
--   End n                   no row is left: n is 0
-- In proofs/Stages.antt: `stage_unique` (one number for each table), `stage_low` (no number above the rows'), `later`, `past`, `stage_carry`.
use Rattle.std.specs.Prelude.{◌≡◌, ◌⊎◌, ℕ}

abbrev pub Stage : ℕ → Type 0 → (ℕ → Type 0) → ℕ → Type 0
Stage k Fault below n = (Fault × (n ≡ k)) ⊎ ((Fault → ⊥) × below n)

abbrev pub End : ℕ → Type 0
End n = n ≡ 0
