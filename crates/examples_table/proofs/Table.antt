-- The table passes its tests.
--   hints         what the tests are helped with: the series of each of the three fields, and the bases passed
--   table_passes requested_passes   every line passes: by one computation
--   table_whole   the lines are those of P1 to P12: each number is there, in order, and no other
use mathlib.Core.Path.{◌≡◌, refl}
use mathlib.Core.List.{List, [], ◌∷◌}
use lib.Dec.{T}
use Rattle.math_fp.specs.Trial.{primeb}
use Rattle.math_rows.specs.Row.{tab, fall_at}
use Rattle.math_rows.specs.Sum.{sum_to}
use Rattle.base_lists.specs.Sums.{conv}
use Rattle.field_roots.specs.Prefix.{part_at, plus_part, minus_part}
use Rattle.examples_table.specs.Lines.{element, labels}
use Rattle.examples_table.specs.Table.{num, t, b₁, b₂, b₃, b₄, e₃, f₃, table, requested}
use Rattle.examples_table.specs.Decide.{Hints, decide_all}

-- G = t³+4, H = 1
abbrev pub h₁ : Hints
h₁ = record {
  r = 1 ∷ 0 ∷ 0 ∷ 3 ∷ 0 ∷ 0 ∷ 1 ∷ 0 ∷ 0 ∷ 0 ∷ 0 ∷ 0 ∷ 0 ∷ 0 ∷ 0 ∷ 2 ∷ 0 ∷ 0 ∷ 1 ∷ 0 ∷ 0 ∷ 2 ∷ 0 ∷ 0 ∷ 0 ∷ 0 ∷ [];
  w = 1 ∷ 0 ∷ 0 ∷ 1 ∷ 0 ∷ 0 ∷ 1 ∷ 0 ∷ 0 ∷ 1 ∷ 0 ∷ 0 ∷ 1 ∷ 0 ∷ 0 ∷ 4 ∷ 0 ∷ 0 ∷ 4 ∷ 0 ∷ 0 ∷ 4 ∷ 0 ∷ 0 ∷ 4 ∷ 0 ∷ [];
  start = b₁;
  passed = b₁ ∷ [];
  E = b₁.M;
  F = element t (num 4) [];
}

-- G = t, H = t+1
abbrev pub h₂ : Hints
h₂ = record {
  r = 1 ∷ 4 ∷ 1 ∷ 4 ∷ 1 ∷ 1 ∷ 4 ∷ 1 ∷ 4 ∷ 1 ∷ 0 ∷ 0 ∷ 0 ∷ 0 ∷ 0 ∷ 0 ∷ 0 ∷ 0 ∷ 0 ∷ 0 ∷ 0 ∷ 0 ∷ 0 ∷ 0 ∷ 0 ∷ 3 ∷ [];
  w = 1 ∷ 2 ∷ 1 ∷ 0 ∷ 0 ∷ 3 ∷ 1 ∷ 3 ∷ 0 ∷ 0 ∷ 3 ∷ 1 ∷ 3 ∷ 0 ∷ 0 ∷ 1 ∷ 2 ∷ 1 ∷ 0 ∷ 0 ∷ 0 ∷ 0 ∷ 0 ∷ 0 ∷ 0 ∷ 1 ∷ [];
  start = b₂;
  passed = b₂ ∷ [];
  E = b₂.M;
  F = element (num 4) (num 3) (num 2);
}

-- G = t³+t, H = 1
abbrev pub h₃ : Hints
h₃ = record {
  r = 1 ∷ 0 ∷ 2 ∷ 0 ∷ 1 ∷ 0 ∷ 0 ∷ 0 ∷ 0 ∷ 0 ∷ 3 ∷ 0 ∷ 1 ∷ 0 ∷ 3 ∷ 0 ∷ 0 ∷ 0 ∷ 0 ∷ 0 ∷ 3 ∷ 0 ∷ 1 ∷ 0 ∷ 3 ∷ 0 ∷ [];
  w = 1 ∷ 0 ∷ 4 ∷ 0 ∷ 1 ∷ 0 ∷ 4 ∷ 0 ∷ 1 ∷ 0 ∷ 1 ∷ 0 ∷ 4 ∷ 0 ∷ 1 ∷ 0 ∷ 4 ∷ 0 ∷ 1 ∷ 0 ∷ 0 ∷ 0 ∷ 0 ∷ 0 ∷ 0 ∷ 0 ∷ [];
  start = b₃;
  passed = b₃ ∷ b₄ ∷ [];
  E = e₃;
  F = f₃;
}

-- the same field, after the first step
abbrev pub once : Hints
once = record { r = h₃.r; w = h₃.w; start = b₃; passed = b₄ ∷ []; E = h₃.E; F = h₃.F }

abbrev pub hints : List Hints
hints =
    h₁ ∷ h₁ ∷ h₂ ∷ h₂ ∷ h₂ ∷ h₃ ∷ h₃ ∷ h₃ ∷ h₃ ∷ once ∷ h₃ ∷ once ∷ h₃ ∷ h₃ ∷ h₃
    -- the lines of P11 and P12 need none
    ∷ h₁ ∷ h₁ ∷ h₁ ∷ h₁ ∷ h₁ ∷ []

pub table_passes : T (decide_all table hints)
unfolding primeb tab fall_at sum_to conv part_at plus_part minus_part
table_passes = tt

pub requested_passes : T (decide_all requested (h₃ ∷ []))
unfolding primeb tab fall_at sum_to conv part_at plus_part minus_part
requested_passes = tt

pub table_whole : labels table ≡ 1 ∷ 2 ∷ 3 ∷ 4 ∷ 5 ∷ 6 ∷ 7 ∷ 8 ∷ 9 ∷ 10 ∷ 11 ∷ 12 ∷ []
table_whole = refl
