-- A unit scaled by a convention, its six rows in place.
--   meant w, numbered w   the convention that the code's w stands for, and its number
--   convention_of  NoConvention   whether the number n names no convention
--   constant A s              the number s as a polynomial
--   Turned k p G H c rows rows'   the rows hold a unit and its inverse, as they did, now scaled by the convention k: E' is a constant s other
--                             than 0 times E, and F' the inverse of E'
--   factor   Factors          the number s by which E is to be multiplied
--   turn     Turns            the rows turned
-- In proofs/: Turned (`turned_unique`: the rows, the field and the convention settle what comes out; `turned_unit`: it is a unit of positive
-- degree; `turned_holds`: what closes the chain under one convention is turned into what does under the other; `turned_back`: there and back).
use Rattle.std.specs.Prelude.{◌≡◌, Bool, true, false, List, ℕ, ◌+◌, ◌<◌, ◌≤◌, length, get_or}
use Rattle.math_valued.specs.Polynomial.{IsUnit}
use Rattle.math_rows.specs.Made.{reading}
use Rattle.field_open.specs.Refusal.{Accepted}
use Rattle.math_ideals.specs.Setting.{P}
use Rattle.math_ideals.specs.Element.{O, sc}
use Rattle.math_chain.specs.Convention.{Convention, e0_monic, norm_one, number, Scaled}
use Rattle.basis_record.specs.Record.{setting}
use Rattle.field_series.specs.Keeps.{Kept}
use Rattle.field_series.specs.declared.OpenedField.{OpenedField}
use Rattle.base_answers.specs.Limits.{longest}
use Rattle.unit_scale.specs.declared.Convention.{Convention as Way}
use Rattle.unit_scale.specs.declared.Convention.TheVariants.{Monic, Norm}
use Rattle.unit_finish.specs.Rows.{six, HoldsUnit}

abbrev pub meant : Way → Convention
meant Monic = e0_monic
meant Norm = norm_one

abbrev pub numbered : Way → ℕ
numbered w = number (meant w)

abbrev pub NoConvention : ℕ → Bool → Type 0
NoConvention n true = (k : Convention) → number k ≡ n → ⊥
NoConvention n false = (k : Convention) × (number k ≡ n)

abbrev pub constant : {p : ℕ} {G H : List ℕ} (A : Accepted p G H) → ℕ → P (setting A)
constant {p} A s = let ρ = reading p A.prime in (ρ.𝓥.const (ρ.cast s), ρ.𝓥.const_poly (ρ.cast s))

pub record ScaledOver {p : ℕ} {G H : List ℕ} (k : Convention) (A : Accepted p G H) (c : ℕ) (rows rows' : List ℕ) : Type 0 where
  pub by : P (setting A)
  pub is_a_unit : IsUnit (setting A).𝓥 by
  pub times : six A c 0 rows' ≡ (O (setting A)).ops.mul (sc (setting A) by) (six A c 0 rows)
  pub scaled : Scaled (setting A) k (six A c 0 rows')
  pub inverse : (O (setting A)).ops.mul (six A c 0 rows') (six A c (c + c + c) rows') ≡ (O (setting A)).ops.𝟏

pub record Turned (k : Convention) (p : ℕ) (G H : List ℕ) (c : ℕ) (rows rows' : List ℕ) : Type 0 where
  pub size : length rows' ≡ length rows
  pub each : (i : ℕ) → get_or rows' i 0 < p
  pub over : (A : Accepted p G H) → ScaledOver k A c rows rows'

pub record FactorAsks (f : OpenedField) (no c : ℕ) (rows : List ℕ) : Type 0 where
  pub G : List ℕ
  pub H : List ℕ
  pub kept : Kept f G H
  pub k : Convention
  pub named : number k ≡ no
  pub most : c ≤ longest
  pub holds : HoldsUnit f.field.p G H c rows

pub record Factors (f : OpenedField) (no c : ℕ) (rows : List ℕ) (s : ℕ) : Type 0 where
  pub below : s < f.field.p
  pub some : 0 < s
  pub law : (G H : List ℕ) (A : Accepted f.field.p G H) → Kept f G H → HoldsUnit f.field.p G H c rows → (k : Convention) → number k ≡ no
      → Scaled (setting A) k ((O (setting A)).ops.mul (sc (setting A) (constant A s)) (six A c 0 rows))

abbrev pub TurnAsks : OpenedField → ℕ → ℕ → List ℕ → Type 0
TurnAsks = FactorAsks

pub record Turns (f : OpenedField) (no c : ℕ) (rows rows' : List ℕ) : Type 0 where
  pub size : length rows' ≡ length rows
  pub law : (G H : List ℕ) → Kept f G H → HoldsUnit f.field.p G H c rows → (k : Convention) → number k ≡ no → Turned k f.field.p G H c rows rows'
