-- Request E6: "We keep both: convention 1 with E0 monic, convention 2 with norm 1, as the caller names it. .. Prove once over both that a closing
-- unit has one scaling under each, and that going from one to the other and back returns the same rows."
--   OnlyUnit k B₀ l d    exactly one unit, with its inverse, closes the chain from B₀ under the convention k
--   RescaleTabled i j p G H rows x   the table of `rescale`: exactly when it answers with the number x
--   Conventions          what holds of both conventions, and of the functions `unit_scaled` (`unit` is asked no number and answers with 1) and
--                        `rescale`
-- `Convention`, `number`, `Scaled`, `PositiveUnit` and `OneScaling` are in math_chain/specs/Convention, `ScaledRows` and `Rescales` in
-- door_rescale/specs/Rescale, `Makes` in door_unit/specs/Unit. Theorem `conventions` (proofs/Conventions).
use Rattle.std.specs.Prelude.{◌≡◌, List, ◌⊎◌, ◌↔◌, ℕ, ◌≤◌, length}
use Rattle.field_open.specs.Refusal.{Accepted}
use Rattle.math_ideals.specs.Setting.{Setting}
use Rattle.math_ideals.specs.Element.{O}
use Rattle.math_ideals.specs.Ideal.{Basis}
use Rattle.math_ideals.specs.Next.{Start}
use Rattle.math_chain.specs.Chain.{Closing}
use Rattle.math_chain.specs.Convention.{Convention, number, PositiveUnit, OneScaling}
use Rattle.math_chain.specs.Unit.{UnitOf}
use Rattle.basis_record.specs.Record.{setting}
use Rattle.door_unit.specs.Unit.{UnitAnswer, Makes}
use Rattle.door_rescale.specs.Rescale.{ScaledRows, Rescales}
use Rattle.unit_scale.specs.Scale.{Turned}
use Rattle.demands.specs.Tabled.{FieldTabled}

pub record OnlyUnit (S : Setting) (k : Convention) (B₀ : Basis S) (l d : ℕ) : Type 0 where
  pub E : (O S).El
  pub F : (O S).El
  pub unit : UnitOf S k B₀ l d E F
  pub only : (E' F' : (O S).El) → UnitOf S k B₀ l d E' F' → (E ≡ E') × (F ≡ F')

-- the numbers name conventions, and the rows are a unit scaled by the first of them, with its inverse
abbrev pub Fits : ℕ → ℕ → ℕ → List ℕ → List ℕ → List ℕ → Type 0
Fits i j p G H rows = (k k' : Convention) × (c : ℕ) × (number k ≡ i) × (number k' ≡ j) × ScaledRows k p G H c rows

-- "Refusals: 14 for any other convention number, or for rows to carry over that aren't a unit of positive degree so scaled, after 1 to 8"
pub record RescaleTabled (i j p : ℕ) (G H rows : List ℕ) (x : ℕ) : Type 0 where
  pub field : FieldTabled p G H x
  pub out_of_rule : (x ≡ 14) ↔ (Accepted p G H × (Fits i j p G H rows → ⊥))
  pub passes : (x ≡ 0) ↔ (Accepted p G H × Fits i j p G H rows)
  pub only : (x ≤ 8) ⊎ (x ≡ 14)

-- the rows before and after, where `rescale` answers 0
pub record Carried (p : ℕ) (G H : List ℕ) (i j : ℕ) (rows rows' : List ℕ) : Type 0 where
  pub field : Accepted p G H
  pub from : Convention
  pub to : Convention
  pub from_is : number from ≡ i
  pub to_is : number to ≡ j
  pub c : ℕ
  pub before : ScaledRows from p G H c rows
  pub after : ScaledRows to p G H c rows'
  -- the same unit, times a constant
  pub same : Turned to p G H c rows rows'

pub record Conventions : Type 0 where
  -- "a closing unit has one scaling under each": any unit of positive degree has, so the closing chain has one unit under each
  pub one_scaling :
      {p : ℕ} {G H : List ℕ} (A : Accepted p G H) (k : Convention) {E F : (O (setting A)).El} →
      PositiveUnit (setting A) E F →
      OneScaling (setting A) k E
  pub one_unit :
      {p : ℕ} {G H : List ℕ} (A : Accepted p G H) (B₀ : Basis (setting A)) → Start (setting A) B₀ →
      {l d : ℕ} {B : Basis (setting A)} → Closing (setting A) B₀ l d B →
      (k : Convention) → OnlyUnit (setting A) k B₀ l d
  -- what `rescale` accepts, and what it makes of it
  pub tabled :
      {p i j n : ℕ} {G H rows rows' : List ℕ} →
      Rescales p G H i j rows n rows' →
      RescaleTabled i j p G H rows n
  pub turns :
      {p i j n : ℕ} {G H rows rows' : List ℕ} →
      Rescales p G H i j rows n rows' → n ≡ 0 →
      Carried p G H i j rows rows'
  -- "going from one to the other and back returns the same rows", for every slice that it accepts
  pub there_and_back :
      {p i j n m : ℕ} {G H rows rows' rows'' : List ℕ} →
      Rescales p G H i j rows n rows' → n ≡ 0 →
      Rescales p G H j i rows' m rows'' →
      (m ≡ 0) × (rows'' ≡ rows)
  -- refusal, period, regulator and scratch do not depend on the convention
  pub one_answer :
      {p i j n : ℕ} {G H x y r s r' s' : List ℕ} (k k' : Convention) → number k ≡ i → number k' ≡ j → (m m' : UnitAnswer) →
      Makes i p G H n x y m r s → Makes j p G H n x y m' r' s' →
      (m ≡ m') × (s ≡ s')
  -- what `unit` gives under one convention becomes what it gives under the other
  pub unit_turned :
      {p i j n n' k : ℕ} {G H x y x' y' r s r' s' r₁ : List ℕ} (m m' : UnitAnswer) →
      Makes i p G H n x y m r s → m.refusal ≡ 0 →
      Makes j p G H n' x' y' m' r' s' → m'.refusal ≡ 0 →
      length x ≡ length x' →
      Rescales p G H i j r k r₁ →
      (k ≡ 0) × (r₁ ≡ r')
