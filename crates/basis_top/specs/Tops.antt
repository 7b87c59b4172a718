-- The leading terms of the polynomial parts of b r ± c w: the size ends before l.
--   Topped F e b c low l t   t is the length and the leading coefficient of the polynomial part of b r + c w (e false) or b r − c w (e
--                            true), or low and 0 where it ends at or before low
--   Led F e b c r            r is the leading coefficient; asked for where there is one (LeadOfAsks)
use Rattle.std.specs.Prelude.{◌≡◌, Bool, List, ℕ, ◌-◌, ◌<◌, ◌≤◌}
use Rattle.math_valued.specs.Degree.{Has}
use Rattle.basis_parts.specs.Frame.{Frame, Meaning, rd, pt, side, Ltμ}
use Rattle.basis_parts.specs.Leaves.{PartAsks}
use Rattle.basis_top.specs.declared.Top.{Top}

pub record TopOfAsks (F : Frame) (e : Bool) (b c : List ℕ) (top l low : ℕ) : Type 0 where
  pub inp : PartAsks F b c top
  pub fits : l ≤ top
  pub room : low ≤ l
  pub ends : (μ : Meaning F) → Ltμ μ (side μ e (pt μ b c)) l

pub record Topped (F : Frame) (e : Bool) (b c : List ℕ) (low l : ℕ) (t : Top) : Type 0 where
  pub from : low ≤ t.n
  pub upto : t.n ≤ l
  pub below : t.c < F.m.p
  pub ends : (μ : Meaning F) → Ltμ μ (side μ e (pt μ b c)) t.n
  pub none : t.n ≡ low → t.c ≡ 0
  pub some : low < t.n → 0 < t.c
  pub lead : low < t.n → (μ : Meaning F) → (rd μ).𝓥.Lead (side μ e (pt μ b c)) (t.n - 1) 0 ((rd μ).cast t.c)

pub record LeadOfAsks (F : Frame) (e : Bool) (b c : List ℕ) (top : ℕ) : Type 0 where
  pub inp : PartAsks F b c top
  pub d : ℕ
  pub has : Has (rd inp.some).𝓥 (side inp.some e (pt inp.some b c)) d

-- r is the leading coefficient of the size, where the size has a degree that is not below 0
pub record Led (F : Frame) (e : Bool) (b c : List ℕ) (r : ℕ) : Type 0 where
  pub law : (μ : Meaning F) (d : ℕ) → Has (rd μ).𝓥 (side μ e (pt μ b c)) d → (0 < r) × (r < F.m.p) × (rd μ).𝓥.Lead (side μ e (pt μ b c)) d 0 ((rd μ).cast r)
