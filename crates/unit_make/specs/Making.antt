-- How the unit is made: what the functions ask and hand out. Each hands out something for every field of which its arguments are so.
--   Blank s               zeros
--   multiplied  Multiplies   E m in the place of E
--   further     Further      one step more
--   product     ProductOf    all steps
--   made        Making       the unit and its inverse
-- Task and Along are those of crate unit_finish.
use Rattle.std.specs.Prelude.{◌≡◌, List, ℕ, suc, ◌+◌, ◌*◌, ◌<◌, ◌≤◌, length, get_or, replicate, set}
use Rattle.math_ring.specs.Ring.{Ops}
use Rattle.field_open.specs.Refusal.{Accepted}
use Rattle.math_ideals.specs.Setting.{Setting}
use Rattle.math_ideals.specs.Element.{O, sc}
use Rattle.math_chain.specs.Convention.{e0_monic}
use Rattle.math_chain.specs.Unit.{Fit}
use Rattle.basis_record.specs.Record.{setting, basis_of, IsRecord}
use Rattle.field_series.specs.Keeps.{Kept, Known}
use Rattle.field_series.specs.declared.OpenedField.{OpenedField}
use Rattle.step_next.specs.declared.StepTaken.{StepTaken}
use Rattle.unit_finish.specs.Rows.{six, Holds}
use Rattle.unit_finish.specs.Finish.{Space, Task, Along}

abbrev pub Blank : List ℕ → Type 0
Blank s = s ≡ replicate (length s) 0

-- ---- E times m
pub record MultipliedAsks (f : OpenedField) (c n : ℕ) (b rows s : List ℕ) : Type 0 where
  pub known : Known f
  pub is_a_record : IsRecord f.field.p known.G known.H b
  pub space : Space c rows s
  pub upto : n ≤ c
  pub blank : Blank s

pub record Multiplies (f : OpenedField) (c n : ℕ) (b rows s rows' s' : List ℕ) : Type 0 where
  pub size : length rows' ≡ length rows
  pub blank : s' ≡ replicate (length s) 0
  pub each : (i : ℕ) → i < c + c + c → get_or rows' i 0 < f.field.p
  pub rest : (i : ℕ) → c + c + c ≤ i → get_or rows' i 0 ≡ get_or rows i 0
  pub law : (G H : List ℕ) (A : Accepted f.field.p G H) → Kept f G H → let S = setting A in (E' : (O S).El) → Fit S n E'
      → (O S).ops.mul (six A c 0 rows) (basis_of A b).M ≡ (O S).ops.mul (sc S (basis_of A b).U) E' → six A c 0 rows' ≡ E'

-- ---- the product of the m passed
pub record StartedAsks (rows : List ℕ) : Type 0 where
  pub some : 0 < length rows

pub record Starts (rows s rows' s' : List ℕ) : Type 0 where
  pub one : rows' ≡ set (replicate (length rows) 0) 0 1
  pub blank : s' ≡ replicate (length s) 0

pub record StepAndMultiplyAsks (f : OpenedField) (c d : ℕ) (b rows s : List ℕ) : Type 0 where
  pub B : List ℕ
  pub l : ℕ
  pub all : ℕ
  pub task : Task f B c l all
  pub i : ℕ
  pub left : i < l
  pub along : Along f.field.p task.known.G task.known.H B c i d b rows
  pub even : length s ≡ length rows
  pub blank : Blank s

pub record Further (f : OpenedField) (c d : ℕ) (b rows s : List ℕ) (o : StepTaken) (rows' s' : List ℕ) : Type 0 where
  pub size : length rows' ≡ length rows
  pub blank : s' ≡ replicate (length s) 0
  pub goes : (t : StepAndMultiplyAsks f c d b rows s) → Along f.field.p t.task.known.G t.task.known.H t.B c (suc t.i) (d + o.degree) o.basis rows'

pub record ProductAsks (f : OpenedField) (c : ℕ) (B : List ℕ) (l : ℕ) (rows s : List ℕ) : Type 0 where
  pub d : ℕ
  pub task : Task f B c l d
  pub along : Along f.field.p task.known.G task.known.H B c 0 0 B rows
  pub even : length s ≡ length rows
  pub blank : Blank s

pub record ProductOf (f : OpenedField) (c : ℕ) (B : List ℕ) (l : ℕ) (rows s rows' s' : List ℕ) : Type 0 where
  pub size : length rows' ≡ length rows
  pub blank : s' ≡ replicate (length s) 0
  pub goes : (t : ProductAsks f c B l rows s) → Along f.field.p t.task.known.G t.task.known.H B c l t.d t.task.last rows'

pub record MakeAsks (f : OpenedField) (B : List ℕ) (l d c : ℕ) (rows s : List ℕ) : Type 0 where
  pub task : Task f B c l d
  pub whole : length rows ≡ 6 * c
  pub even : length s ≡ length rows

pub record Making (f : OpenedField) (B : List ℕ) (l d c : ℕ) (rows s rows' s' : List ℕ) : Type 0 where
  pub size : length rows' ≡ length rows
  pub blank : s' ≡ replicate (length s) 0
  pub goes : (t : MakeAsks f B l d c rows s) → Holds e0_monic f.field.p t.task.known.G t.task.known.H l d c rows'
