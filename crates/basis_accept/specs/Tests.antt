-- What the tests of refusal 9 on seven rows ask and decide. The tests of numbers and lengths are in crates basis_bounds and basis_shape,
-- that of a common factor is in crate basis_coprime.
--   Numbers μ b       the sizes of a scaled reduced basis of a reduced ideal (crate math_ideals)
--   Shaped            a test of these, at each meaning of the series
use Rattle.std.specs.Prelude.{Bool, ℕ, ◌-◌, ◌<◌, ◌≤◌}
use Rattle.math_triple.specs.Tri.{Tri}
use Rattle.math_ideals.specs.Tests.{ReducedInNumbers}
use Rattle.base_answers.specs.Decides.{Decides}
use Rattle.basis_record.specs.Seven.{AreRows}
use Rattle.basis_record.specs.declared.Seven.{Seven}
use Rattle.basis_parts.specs.Frame.{Frame, Fine, Meaning, Short, rd, Ser, rowμ}

pub record SizesRightAsks (F : Frame) (top : ℕ) (b : Seven) : Type 0 where
  pub fine : Fine F
  pub some : Meaning F
  pub two : 2 < F.m.p
  pub fits : top ≤ 32
  pub low_r : F.dr ≤ top
  pub low_w : F.dw ≤ top
  pub rows : AreRows F.m.p b
  pub h1 : Short F.m.p b.m1 (top - F.dr)
  pub h2 : Short F.m.p b.m2 (top - F.dw)
  pub k1 : Short F.m.p b.n1 (top - F.dr)
  pub k2 : Short F.m.p b.n2 (top - F.dw)

-- M and N of the seven rows, as series
abbrev pub Mof : {F : Frame} (μ : Meaning F) → Seven → Tri (Ser μ)
Mof μ b = record { a = rowμ μ b.m0; b = rowμ μ b.m1; c = rowμ μ b.m2 }

abbrev pub Nof : {F : Frame} (μ : Meaning F) → Seven → Tri (Ser μ)
Nof μ b = record { a = rowμ μ b.n0; b = rowμ μ b.n1; c = rowμ μ b.n2 }

abbrev pub Numbers : {F : Frame} → Meaning F → Seven → Type 0
Numbers μ b = ReducedInNumbers (rd μ).𝓥 μ.r μ.w (rowμ μ b.u) (Mof μ b) (Nof μ b)

abbrev pub Shaped : Frame → Seven → Bool → Type 0
Shaped F b o = (μ : Meaning F) → Decides o (Numbers μ b)
