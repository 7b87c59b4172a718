-- From the product to the unit and its inverse: what the functions ask and hand out. Each hands out something for every field of which
-- its arguments are so.
--   Space c rows s        six rows of c numbers, and as much scratch
--   Task f B c l d        f is an opened field, B the record of its order, from which the chain closes after l steps with degree sum d,
--                         and c coefficients are room for the unit
--   Along p G H B c i d b rows   after i steps: b is the record reached, d the degree sum, and the first three rows of c numbers hold
--                         the product of the m passed, the others zeros
--   inverted    Inverses     cof(E)/N(E) after E
--   finished    Finishes     from the product to the unit and its inverse
use Rattle.std.specs.Prelude.{◌≡◌, List, ℕ, ◌+◌, ◌*◌, ◌<◌, ◌≤◌, length, get_or, replicate}
use Rattle.math_ring.specs.Ring.{Ops}
use Rattle.math_valued.specs.Polynomial.{polys, IsUnit}
use Rattle.field_open.specs.Refusal.{Accepted}
use Rattle.math_ideals.specs.Setting.{Setting, P}
use Rattle.math_ideals.specs.Element.{O, sc, norm, cof}
use Rattle.math_chain.specs.Chain.{Chain, Product}
use Rattle.math_chain.specs.Convention.{e0_monic}
use Rattle.math_chain.specs.Unit.{Fit}
use Rattle.basis_record.specs.Record.{setting, basis_of, IsRecord}
use Rattle.field_series.specs.Keeps.{Kept, Known}
use Rattle.field_series.specs.declared.OpenedField.{OpenedField}
use Rattle.basis_field.specs.First.{IsFirst}
use Rattle.walk_chain.specs.Walk.{Closes}
use Rattle.unit_finish.specs.Rows.{six, Holds}
use Rattle.base_answers.specs.Limits.{longest}

-- six rows of c numbers, and as much scratch
pub record Space (c : ℕ) (rows s : List ℕ) : Type 0 where
  pub most : c ≤ longest
  pub whole : length rows ≡ 6 * c
  pub even : length s ≡ length rows

pub record Task (f : OpenedField) (B : List ℕ) (c l d : ℕ) : Type 0 where
  pub known : Known f
  pub is_first : IsFirst f.field.p known.G known.H B
  pub last : List ℕ
  pub closes : Closes f.field.p known.G known.H B l d last
  pub room : d < c
  pub most : c ≤ longest

pub record Along (p : ℕ) (G H B : List ℕ) (c i d : ℕ) (b rows : List ℕ) : Type 0 where
  pub is_a_record : IsRecord p G H b
  pub whole : length rows ≡ 6 * c
  pub each : (j : ℕ) → get_or rows j 0 < p
  pub rest : (j : ℕ) → c + c + c ≤ j → get_or rows j 0 ≡ 0
  pub product : (A : Accepted p G H) → (k : Chain (setting A) (basis_of A B) i d (basis_of A b)) × Product (setting A) k (six A c 0 rows)

pub record InvertedAsks (f : OpenedField) (c k : ℕ) (rows s : List ℕ) : Type 0 where
  pub known : Known f
  pub space : Space c rows s
  pub upto : k ≤ c
  pub each : (i : ℕ) → get_or rows i 0 < f.field.p
  pub rest : (i : ℕ) → c + c + c ≤ i → get_or rows i 0 ≡ 0
  pub fits : (A : Accepted f.field.p known.G known.H) → Fit (setting A) k (cof (setting A) (six A c 0 rows))
  pub unit : (A : Accepted f.field.p known.G known.H) → IsUnit (setting A).𝓥 (norm (setting A) (six A c 0 rows))

pub record Inverses (f : OpenedField) (c : ℕ) (rows s rows' s' : List ℕ) : Type 0 where
  pub size : length rows' ≡ length rows
  pub blank : s' ≡ replicate (length s) 0
  pub each : (i : ℕ) → get_or rows' i 0 < f.field.p
  pub law : (G H : List ℕ) (A : Accepted f.field.p G H) → Kept f G H → let S = setting A in (ν : P S)
      → (polys S.𝓥).ops.𝟏 ≡ (polys S.𝓥).ops.mul (norm S (six A c 0 rows)) ν
      → (six A c 0 rows' ≡ six A c 0 rows) × (six A c (c + c + c) rows' ≡ (O S).ops.mul (sc S ν) (cof S (six A c 0 rows)))

pub record FinishedAsks (f : OpenedField) (c d : ℕ) (rows s : List ℕ) : Type 0 where
  pub B : List ℕ
  pub l : ℕ
  pub task : Task f B c l d
  pub along : Along f.field.p task.known.G task.known.H B c l d task.last rows
  pub even : length s ≡ length rows

pub record Finishes (f : OpenedField) (c d : ℕ) (rows s rows' s' : List ℕ) : Type 0 where
  pub size : length rows' ≡ length rows
  pub blank : s' ≡ replicate (length s) 0
  pub goes : (t : FinishedAsks f c d rows s) → Holds e0_monic f.field.p t.task.known.G t.task.known.H t.l d c rows'
