-- The unit made and scaled by the convention with the number i.
--   make_scaled   MakesScaled   as `make` of crate unit_make, for each convention
use Rattle.std.specs.Prelude.{◌≡◌, List, ℕ, length, replicate}
use Rattle.math_chain.specs.Convention.{Convention, number}
use Rattle.field_series.specs.declared.OpenedField.{OpenedField}
use Rattle.unit_finish.specs.Rows.{Holds}
use Rattle.unit_make.specs.Making.{MakeAsks}

pub record MakeScaledAsks (f : OpenedField) (B : List ℕ) (l d c i : ℕ) (rows s : List ℕ) : Type 0 where
  pub make : MakeAsks f B l d c rows s
  pub k : Convention
  pub named : number k ≡ i

pub record MakesScaled (f : OpenedField) (B : List ℕ) (l d c i : ℕ) (rows s rows' s' : List ℕ) : Type 0 where
  pub size : length rows' ≡ length rows
  pub blank : s' ≡ replicate (length s) 0
  pub goes : (t : MakeAsks f B l d c rows s) (k : Convention) → number k ≡ i → Holds k f.field.p t.task.known.G t.task.known.H l d c rows'
