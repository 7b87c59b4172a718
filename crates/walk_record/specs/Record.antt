-- A walk record: a field, a basis, the steps and the degree sum so far, a state.
--   most_steps     the most steps of a record that is walked on
--   most_records   the most records of a sheet
--   Beyond n b     a sheet of n records with the budget b is refused: over 64 records, or a budget over 1,000,000
--   counted n      how many entries of an array of 32 are read where n are told: n, or none where that is over 32
--   listed l n     the list that n entries of the array l give: the first n of them. A count over 32 gives none, which is refused with 3 as
--                  a list of over 32 entries is
--   list_g list_h    the lists of a record, as callers give them: zeros above the coefficients are allowed
--   marked r s     r with the state s, nothing else changed
--   moved r B n d s  r with the basis B, n steps and the degrees d more, and the state s; its field is as it was
--   Unfit r        what 14 is for: a state unknown, over 1,000,000,000 steps, a degree sum above 16 times the steps
--   MoveAsks r n d   what `moved` asks: the sums of steps and of degrees are numbers of 64 bits
use Rattle.std.specs.Prelude.{◌⊎◌, true, false, List, ℕ, ◌+◌, ◌*◌, ◌^◌, ◌<◌, leb, take}
use Rattle.base_answers.specs.Limits.{most}
use Rattle.field_open.specs.Padding.{entries, unpad}
use Rattle.walk_record.specs.declared.WalkRecord.{WalkRecord}
use Rattle.walk_record.specs.State.{Unknown}

abbrev pub most_steps : ℕ
most_steps = 1000000000

abbrev pub most_records : ℕ
most_records = 64

abbrev pub Beyond : ℕ → ℕ → Type 0
Beyond n b = (most_records < n) ⊎ (most < b)

unfoldable pub counted : ℕ → ℕ
counted n = elim (leb n entries) [ true ↦ n | false ↦ 0 ]

abbrev pub listed : List ℕ → ℕ → List ℕ
listed l n = take (counted n) l

abbrev pub list_g : WalkRecord → List ℕ
list_g r = unpad (listed r.g r.ng)

abbrev pub list_h : WalkRecord → List ℕ
list_h r = unpad (listed r.h r.nh)

abbrev pub marked : WalkRecord → ℕ → WalkRecord
marked r s = record { p = r.p; g = r.g; ng = r.ng; h = r.h; nh = r.nh; basis = r.basis; steps = r.steps; sum = r.sum; state = s }

abbrev pub moved : WalkRecord → List ℕ → ℕ → ℕ → ℕ → WalkRecord
moved r B n d s = record { p = r.p; g = r.g; ng = r.ng; h = r.h; nh = r.nh; basis = B; steps = r.steps + n; sum = r.sum + d; state = s }

abbrev pub Unfit : WalkRecord → Type 0
Unfit r = Unknown r.state ⊎ ((most_steps < r.steps) ⊎ (16 * r.steps < r.sum))

pub record MoveAsks (r : WalkRecord) (n d : ℕ) : Type 0 where
  pub steps : r.steps + n < 2 ^ 64
  pub sum : r.sum + d < 2 ^ 64
