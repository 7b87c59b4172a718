-- The state of a walk record, as a number: the one definition of the codes.
--   going        0: the record is open, and the walk goes on from it
--   closed       100: its chain has closed
--   IsRefusal s  a refusal's own number: 1 to 9, or 14
--   Passed s     closed or a refusal: a sheet passes the record over
--   Unknown s    any other number but 0, so 10 to 13 and 15 too
-- In proofs/States.antt: the codes exclude each other (`not_going`, `not_closed`).
use Rattle.std.specs.Prelude.{◌≡◌, ◌≢◌, ◌⊎◌, ℕ, ◌≤◌}

abbrev pub going : ℕ
going = 0

abbrev pub closed : ℕ
closed = 100

abbrev pub IsRefusal : ℕ → Type 0
IsRefusal s = ((1 ≤ s) × (s ≤ 9)) ⊎ (s ≡ 14)

abbrev pub Passed : ℕ → Type 0
Passed s = (s ≡ closed) ⊎ IsRefusal s

abbrev pub Unknown : ℕ → Type 0
Unknown s = (s ≢ going) × (Passed s → ⊥)
