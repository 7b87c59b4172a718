-- Whether a line holds, computed. A passed test proves the line: `sound` of crate examples.
--   Hints         what the test is helped with: first coefficients of the series, the basis of the order, the bases that the walk passes after
--                 its start (the last one first), the unit and its inverse. Nothing is believed of them.
--   decide l h    the test of a line
--   decide_all     of a list of lines
use Rattle.std.specs.Prelude.{Bool, true, false, ◌&&◌, ◌||◌, List, [], ◌∷◌, ℕ, zero, suc, ◌+◌, ◌*◌, ◌/◌, ◌%◌, eqb, ltb, leb, length}
use Rattle.math_triple.specs.Tri.{Tri, norm_t}
use Rattle.math_chain.specs.Convention.{Convention, e0_monic}
use Rattle.math_fp.specs.Trial.{primeb}
use Rattle.num_prime.specs.Table.{largest}
use Rattle.base_answers.specs.Limits.{longest}
use Rattle.base_answers.specs.Limits.{most}
use Rattle.base_lists.specs.Pieces.{cut}
use Rattle.examples_lists.specs.Lists.{lists, alike, alike_t}
use Rattle.examples_tests.specs.Rows.{Rows, stored}
use Rattle.examples_tests.specs.Tests.{every, below, accepts, begins, good, kept}
use Rattle.examples_tests.specs.Walks.{at, degree_l, total, unclosed, step, walks, is_unit}
use Rattle.examples_table.specs.Lines.{Input, Line, refuses, series, order, steps, closes, spends, period, no_period, unit, unit_norm, narrow, begun_book, no_book, six_rows}

pub record Hints : Type 0 where
  pub r : List ℕ
  pub w : List ℕ
  pub start : Rows
  pub passed : List Rows
  pub E : Tri (List ℕ)
  pub F : Tri (List ℕ)

abbrev pub refused : ℕ → ℕ → Bool
refused p zero = false
refused p (suc zero) = ltb p 5 || ltb largest p
refused p (suc (suc zero)) = every (primeb p ∷ leb 5 p ∷ leb p largest ∷ eqb (p % 3) 1 ∷ [])
refused p (suc (suc (suc n))) = false

-- U = 1 at the last of the bases passed, and before it nowhere
abbrev pub closed : ℕ → List Rows → Bool
closed p [] = false
closed p (c ∷ cs) = unclosed p cs && alike p c.U (1 ∷ [])

module _ (k : Input) (h : Hints) where
  abbrev pub field : Bool
  field = every (accepts k.p k.G k.H)

  abbrev pub is_good : Rows → Bool
  is_good b = every (good k.p k.G k.H h.r h.w b)

  -- a record that holds a good basis
  abbrev pub is_record : Rows → List Bool
  is_record b = every (kept k.p (stored b) b) ∷ is_good b ∷ []

  abbrev pub is_one : List ℕ → Bool
  is_one U = alike k.p U (1 ∷ [])

  abbrev pub is_walk : Rows → Bool
  is_walk b = walks k.p k.G k.H h.r h.w b h.passed

  abbrev pub orders : Rows → List Bool
  orders b = field ∷ every (is_record b) ∷ is_one b.U ∷ []

  abbrev pub may_go_on : Rows → ℕ → Rows → List Bool
  may_go_on a d b = field ∷ every (is_record a) ∷ every (kept k.p (stored b) b) ∷ every (step k.p k.G k.H h.r h.w a b) ∷ eqb (degree_l a) d ∷ []

  -- a walk from the record of a to that of b
  abbrev pub walked : ℕ → Rows → ℕ → ℕ → Rows → List Bool
  walked n a s d b =
      field ∷ leb n most ∷ every (is_record a) ∷ is_walk a ∷ eqb (length h.passed) s ∷ eqb (total a h.passed) d
      ∷ every (kept k.p (stored b) (at a h.passed)) ∷ []

  abbrev pub closing : ℕ → Rows → ℕ → ℕ → Rows → List Bool
  closing n a s d b = every (walked n a s d b) ∷ closed k.p h.passed ∷ leb s n ∷ []

  abbrev pub spending : ℕ → Rows → ℕ → Rows → List Bool
  spending n a d b = every (walked n a n d b) ∷ unclosed k.p h.passed ∷ []

  -- the same from the order, to wherever the bases passed end
  abbrev pub periodic : ℕ → ℕ → ℕ → List Bool
  periodic n l e = every (closing n h.start l (e + e) (at h.start h.passed)) ∷ is_one h.start.U ∷ []

  abbrev pub unperiodic : ℕ → List Bool
  unperiodic n = every (spending n h.start (total h.start h.passed) (at h.start h.passed)) ∷ is_one h.start.U ∷ []

  -- the walk from the order, which closes after l steps; c is within its rule
  abbrev pub from_order : ℕ → ℕ → List Bool
  from_order c l = field ∷ leb c longest ∷ is_good h.start ∷ is_one h.start.U ∷ is_walk h.start ∷ closed k.p h.passed ∷ eqb (length h.passed) l ∷ []

  abbrev pub rows_at : ℕ → ℕ → List ℕ → Tri (List ℕ)
  rows_at c i l = record { a = cut i c l; b = cut (i + c) c l; c = cut (i + c + c) c l }

  abbrev pub is_six : ℕ → Tri (List ℕ) → Tri (List ℕ) → List ℕ → List Bool
  is_six c E F l = eqb (length l) (6 * c) ∷ below k.p l ∷ alike_t k.p (rows_at c 0 l) E ∷ alike_t k.p (rows_at c (c + c + c) l) F ∷ []

  abbrev pub makes : Convention → ℕ → ℕ → ℕ → Tri (List ℕ) → Tri (List ℕ) → List Bool
  makes by c l e E F =
      every (from_order c l) ∷ eqb (e + e) (total h.start h.passed) ∷ ltb (total h.start h.passed) c
      ∷ every (is_unit k.p k.G k.H by h.start h.passed E F) ∷ every (is_six c E F (six_rows c E F)) ∷ []

abbrev pub decide : Line → Hints → Bool
decide (refuses p ls n) h = refused p n
decide (series k r w) h = every (field k h ∷ every (begins k.p k.G k.H r w) ∷ leb (length r) longest ∷ [])
decide (order k b) h = every (orders k h b)
decide (steps k a d b) h = every (may_go_on k h a d b)
decide (closes k n a s d b) h = every (closing k h n a s d b)
decide (spends k n a d b) h = every (spending k h n a d b)
decide (period k n l e) h = every (periodic k h n l e)
decide (no_period k n) h = every (unperiodic k h n)
decide (unit by k c l e E F) h = every (makes k h by c l e E F)
decide (unit_norm k c l N) h =
    every (every (makes k h e0_monic c l (total h.start h.passed / 2) h.E h.F) ∷ alike k.p (norm_t (lists k.p) k.G k.H h.E) N ∷ [])
decide (narrow k c l) h = every (every (from_order k h c l) ∷ leb c (total h.start h.passed) ∷ [])
decide begun_book h = true
decide (no_book n) h = ltb n 6

-- a line without hints is not proved
abbrev pub decide_all : List (ℕ × Line) → List Hints → Bool
decide_all [] hs = true
decide_all (l ∷ ls) [] = false
decide_all ((n, l) ∷ ls) (h ∷ hs) = decide l h && decide_all ls hs
