-- Two orders that correspond: one to one, so that products, 1 and degrees stay.
--   Corresponds S S'   elements of the order of S go to elements of the order of S' and back
-- So units go to units of the same degree, whatever series the two settings have.
-- `carried` in proofs/Corresponds.antt: orders that carry over do. In crate pair_theory: `corresponds`, so the orders of two accepted pairs of
-- one field do; `least_agree`, their units have one least positive degree.
use Rattle.std.specs.Prelude.{◌≡◌, ℕ}
use Rattle.math_valued.specs.Degree.{HasDeg}
use Rattle.math_ideals.specs.Setting.{Setting}
use Rattle.math_ideals.specs.Element.{O, ev}

pub record Corresponds (S S' : Setting) : Type 0 where
  pub to : (O S).El → (O S').El
  pub from : (O S').El → (O S).El
  pub to_from : (v : (O S').El) → to (from v) ≡ v
  pub from_to : (u : (O S).El) → from (to u) ≡ u
  pub to_one : to (O S).ops.𝟏 ≡ (O S').ops.𝟏
  pub from_one : from (O S').ops.𝟏 ≡ (O S).ops.𝟏
  pub to_mul : (u v : (O S).El) → to ((O S).ops.mul u v) ≡ (O S').ops.mul (to u) (to v)
  pub from_mul : (u v : (O S').El) → from ((O S').ops.mul u v) ≡ (O S).ops.mul (from u) (from v)
  -- "The degree of an element is that of its series"
  pub to_deg : {p q : ℕ} (u : (O S).El) → HasDeg S.𝓥 (ev S u) p q → HasDeg S'.𝓥 (ev S' (to u)) p q
  pub from_deg : {p q : ℕ} (v : (O S').El) → HasDeg S'.𝓥 (ev S' v) p q → HasDeg S.𝓥 (ev S (from v)) p q
