-- The unit of every closing chain is fundamental (request E8).
--   closing_none       at the first closing no unit has a degree strictly between 0 and the degree sum
--   unit_fundamental   the unit of a closing chain: F is its inverse, its degree is the least positive one, every unit is a constant times a
--                      power of it, in one way
--   unit_smallest      it is the smallest unit of positive degree so scaled
--   closing_least      the degree sum at the first closing is the least positive degree of a unit
use Prim.Native.Nat.{ℕ, ◌-◌ as ◌-ⁿ◌}
use native.Mathlib.Omega.{arith}
use Rattle.math_valued.specs.Degree.{Has}
use Rattle.math_valued.proofs.Degree as d
use Rattle.math_ideals.specs.Setting.{Setting}
use Rattle.math_ideals.specs.Element.{O, ev}
use Rattle.math_ideals.specs.Ideal.{Basis}
use Rattle.math_ideals.specs.Next.{Start}
use Rattle.math_chain.specs.Chain.{Closing}
use Rattle.math_chain.specs.Convention.{Convention}
use Rattle.math_chain.specs.Unit.{UnitOf}
use Rattle.math_chain.proofs.Walk.{closing_unique}
use Rattle.math_chain.proofs.Unit.{closing_pos, unit_degree, unit_exists}
use Rattle.math_fundamental.specs.Smallest.{NoneBetween, Least, LeastDegree, Smallest, Fundamental}
use Rattle.math_fundamental.proofs.Units.{unit_closes}
use Rattle.math_fundamental.proofs.Powers.{powers}

module _ (S : Setting) where
  open S use {𝓥}

  -- a unit of positive degree closes the chain with no larger degree sum, and there is one first closing
  pub closing_none : {B₀ : Basis S} → Start S B₀ → {l n : ℕ} {B : Basis S} → Closing S B₀ l n B → NoneBetween S n
  closing_none {B₀} st {l} {n} c η inv p q h lo hi =
      let hη : Has 𝓥 (ev S η) (p -ⁿ q) = d.has_move 𝓥 (p -ⁿ q) 0 h (omega arith) in
      let (l', m, B', c', le) = unit_closes S B₀ st η inv hη (omega arith) in
      let (e, f, g) = closing_unique S B₀ st.good c c' in
      absurd (omega (arith, f, le, lo, hi))

  unit_least : {k : Convention} {B₀ : Basis S} {l n : ℕ} {E F : (O S).El} → UnitOf S k B₀ l n E F → Least S E n
  unit_least {B₀ = B₀} {F = F} u = record {
    unit = (F, u.inverse);
    degree = (unit_degree S B₀ u.start u).0;
    positive = closing_pos S B₀ u.start u.closing;
    least = closing_none u.start u.closing;
  }

  pub unit_fundamental : {k : Convention} {B₀ : Basis S} {l n : ℕ} {E F : (O S).El} → UnitOf S k B₀ l n E F → Fundamental S E F n
  unit_fundamental {E = E} {F} u =
      let k : Least S E _ = unit_least u in
      record { inverse = u.inverse; least = k; powers = powers S E F u.inverse k.degree k.positive k.least }

  pub unit_smallest : {k : Convention} {B₀ : Basis S} {l n : ℕ} {E F : (O S).El} → UnitOf S k B₀ l n E F → Smallest S k E n
  unit_smallest u = record { least = unit_least u; scaled = u.scaled }

  pub closing_least : {B₀ : Basis S} → Start S B₀ → {l n : ℕ} {B : Basis S} → Closing S B₀ l n B → LeastDegree S n
  closing_least {B₀} st c = let (E, F, u) = unit_exists S B₀ st c in (E, unit_least u)
