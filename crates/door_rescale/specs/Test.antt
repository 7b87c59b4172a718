-- What the tests before the rows are turned answer.
--   misscaled   Misscaled   whether the rows do not hold a unit of positive degree scaled by the convention with the number i, and its inverse
--   unfit       Unfit       the same, or whether i or j names no convention, or the length is no six rows
use Rattle.std.specs.Prelude.{◌≡◌, Bool, true, false, List, ℕ, ◌/◌, ◌*◌, ◌≤◌, length}
use Rattle.base_answers.specs.Limits.{longest}
use Rattle.math_chain.specs.Convention.{Convention, number}
use Rattle.field_series.specs.Keeps.{Kept, Known}
use Rattle.field_series.specs.declared.OpenedField.{OpenedField}
use Rattle.door_rescale.specs.Rescale.{ScaledRows}

pub record MisscaledAsks (f : OpenedField) (i c : ℕ) (rows : List ℕ) : Type 0 where
  pub known : Known f
  pub k : Convention
  pub named : number k ≡ i
  pub most : c ≤ longest
  pub whole : length rows ≡ 6 * c

abbrev pub Misscaled : OpenedField → ℕ → ℕ → List ℕ → Bool → Type 0
Misscaled f i c rows true = (G H : List ℕ) → Kept f G H → (k : Convention) → number k ≡ i → ScaledRows k f.field.p G H c rows → ⊥
Misscaled f i c rows false = (G H : List ℕ) → Kept f G H → (k : Convention) → number k ≡ i → ScaledRows k f.field.p G H c rows

pub record Fit (f : OpenedField) (i j : ℕ) (rows : List ℕ) : Type 0 where
  pub k : Convention
  pub k' : Convention
  pub from : number k ≡ i
  pub to : number k' ≡ j
  pub rows_fit : (G H : List ℕ) → Kept f G H → ScaledRows k f.field.p G H (length rows / 6) rows

abbrev pub Unfit : OpenedField → ℕ → ℕ → List ℕ → Bool → Type 0
Unfit f i j rows true = (G H : List ℕ) → Kept f G H → (k k' : Convention) (c : ℕ) → number k ≡ i → number k' ≡ j → ScaledRows k f.field.p G H c rows → ⊥
Unfit f i j rows false = Fit f i j rows
