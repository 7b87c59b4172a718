-- The six rows of a unit.
--   six c at l              the element whose rows are the three rows of c numbers of l from place at on
--   Holds k p G H l d c rows  E0, E1, E2, F0, F1, F2 of the unit that closes after l steps with degree sum d, scaled by the convention k, each
--                           c coefficients with zeros above
--   HoldsUnit p G H c rows  E0, E1, E2, F0, F1, F2 of some unit of positive degree and its inverse
-- `rows_unique` in proofs/Rows.antt: the field and the convention settle the rows.
use Rattle.std.specs.Prelude.{◌≡◌, List, ℕ, ◌+◌, ◌*◌, ◌<◌, length, get_or}
use Rattle.field_open.specs.Refusal.{Accepted}
use Rattle.math_ideals.specs.Element.{O}
use Rattle.math_ideals.specs.Ideal.{Basis}
use Rattle.math_ideals.specs.Next.{Start}
use Rattle.math_chain.specs.Convention.{Convention, PositiveUnit}
use Rattle.math_chain.specs.Unit.{UnitOf}
use Rattle.basis_record.specs.Record.{setting, poly_of}
use Rattle.unit_rows.specs.Six.{cut}

abbrev pub six : {p : ℕ} {G H : List ℕ} (A : Accepted p G H) (c at : ℕ) → List ℕ → (O (setting A)).El
six A c at l = record { a = poly_of A (cut at c l); b = poly_of A (cut (at + c) c l); c = poly_of A (cut (at + c + c) c l) }

pub record Holds (k : Convention) (p : ℕ) (G H : List ℕ) (l d c : ℕ) (rows : List ℕ) : Type 0 where
  pub whole : length rows ≡ 6 * c
  pub each : (i : ℕ) → get_or rows i 0 < p
  pub unit : (A : Accepted p G H) (B₀ : Basis (setting A)) → Start (setting A) B₀ → UnitOf (setting A) k B₀ l d (six A c 0 rows) (six A c (c + c + c) rows)

pub record HoldsUnit (p : ℕ) (G H : List ℕ) (c : ℕ) (rows : List ℕ) : Type 0 where
  pub whole : length rows ≡ 6 * c
  pub each : (i : ℕ) → get_or rows i 0 < p
  pub unit : (A : Accepted p G H) → PositiveUnit (setting A) (six A c 0 rows) (six A c (c + c + c) rows)
