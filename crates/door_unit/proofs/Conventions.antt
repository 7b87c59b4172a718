-- The unit made with E0 monic, and turned where another convention is asked for.
--   turn_in        what `turn` asks of the rows made
--   made_first     under convention 1 they are the rows asked for
--   made_turned    under another they are turned into them
use mathlib.Core.Path.{◌≡◌, sym, ◌∙◌, subst}
use mathlib.Core.List.{List}
use Prim.Native.Nat.{ℕ}
use Rattle.math_chain.proofs.Scaling.{named_one}
use Rattle.field_series.specs.declared.OpenedField.{OpenedField}
use Rattle.unit_finish.specs.Rows.{Holds}
use Rattle.unit_make.specs.Making.{Making}
use Rattle.unit_scale.specs.Scale.{FactorAsks, Turns}
use Rattle.unit_scale.proofs.Turned.{holds_unit, turned_holds}
use Rattle.door_unit.specs.Scaled.{MakeScaledAsks, MakesScaled}

module _ {f : OpenedField} {B : List ℕ} {l d c i : ℕ} {rows s rows₁ s₁ : List ℕ} (m : Making f B l d c rows s rows₁ s₁) where
  pub turn_in : MakeScaledAsks f B l d c i rows s → FactorAsks f i c rows₁
  turn_in t = record {
    G = t.make.task.known.G;
    H = t.make.task.known.H;
    kept = t.make.task.known.kept;
    k = t.k;
    named = t.named;
    most = t.make.task.most;
    holds = holds_unit (m.goes t.make);
  }

  pub made_first : i ≡ 1 → MakesScaled f B l d c i rows s rows₁ s₁
  made_first e = record {
    size = m.size;
    blank = m.blank;
    goes = λ t k n. subst (λ j. Holds j f.field.p t.task.known.G t.task.known.H l d c rows₁) (sym (named_one k (n ∙ e))) (m.goes t);
  }

  pub made_turned : {rows₂ : List ℕ} → Turns f i c rows₁ rows₂ → MakesScaled f B l d c i rows s rows₂ s₁
  made_turned u = record {
    size = u.size ∙ m.size;
    blank = m.blank;
    goes = λ t k n. turned_holds (m.goes t) (u.law t.task.known.G t.task.known.H t.task.known.kept (holds_unit (m.goes t)) k n);
  }
