-- Demand 2: "refusals come exactly as tabled". A table for each function from the series to the unit: exactly when each number comes, and
-- that no other comes.
--   FieldTabled p G H x                 a number from 1 to 8 comes exactly when it is the field's first refusal
--   OrderTabled p G H x                 the table of `order`
--   SeriesTabled p G H r w x            the table of `series`, of the two lent slices r and w
--   RecordTabled p G H B x              the table of `check` and of `step`, of the rows B
--   WalkTabled p G H n B x              the table of `walk`, from the rows B with the budget n
--   PeriodTabled p G H n x              the table of `from_order`, with the budget n
--   UnitTabled i p G H n rows scratch x the table of `unit` and of `unit_scaled`, with the convention's number i, the budget n and the two
--                                       lent slices
--   ClosesWithin B₀ n                   a count of steps from 1 to n closes; that none does is `Open B₀ n` of crate math_chain
--   UnitWithin A n k                    a walk of at most n steps from the order closes, and the unit E has degree k, that of its series: it
--                                       is the same under each convention
-- How to read it: x is the number of the answer, 0 for none; `Refusal p G H k` says that k is the number of the field's first fault of 1 to
-- 8; A says that the field is accepted, and B₀ is the basis of the order. What each number asks takes in that none before it came.
-- The fields `.._tabled` of Demand2 say it of every outcome that meets the function's contract; their proofs are in proofs/Tabled.antt.
use Rattle.std.specs.Prelude.{◌≡◌, ◌⊎◌, ◌↔◌, List, ℕ, ◌+◌, ◌≤◌, ◌<◌}
use Rattle.base_answers.specs.Limits.{most}
use Rattle.math_valued.specs.Degree.{Has}
use Rattle.math_valued.specs.Polynomial.{polys}
use Rattle.field_open.specs.Refusal.{Refusal, Accepted}
use Rattle.field_series.specs.Answer.{Fits}
use Rattle.math_ideals.specs.Setting.{Setting}
use Rattle.math_ideals.specs.Element.{O, ev}
use Rattle.math_ideals.specs.Ideal.{Basis}
use Rattle.math_ideals.specs.Next.{Start}
use Rattle.math_chain.specs.Chain.{Chain, Open}
use Rattle.math_chain.specs.Convention.{Convention}
use Rattle.math_chain.specs.Unit.{UnitOf}
use Rattle.basis_record.specs.Record.{setting, basis_of, IsRecord}
use Rattle.door_unit.specs.Unit.{Lent}

abbrev pub ClosesWithin : (S : Setting) → Basis S → ℕ → Type 0
ClosesWithin S B₀ n = (l d : ℕ) × (B : Basis S) × (1 ≤ l) × (l ≤ n) × Chain S B₀ l d B × (B.U ≡ (polys S.𝓥).ops.𝟏)

abbrev pub FieldTabled : ℕ → List ℕ → List ℕ → ℕ → Type 0
FieldTabled p G H x = (k : ℕ) → 1 ≤ k → k ≤ 8 → (x ≡ k) ↔ Refusal p G H k

pub record OrderTabled (p : ℕ) (G H : List ℕ) (x : ℕ) : Type 0 where
  pub field : FieldTabled p G H x
  pub passes : (x ≡ 0) ↔ Accepted p G H
  pub only : x ≤ 8

pub record SeriesTabled (p : ℕ) (G H r w : List ℕ) (x : ℕ) : Type 0 where
  pub field : FieldTabled p G H x
  pub out_of_rule : (x ≡ 14) ↔ (Accepted p G H × (Fits r w → ⊥))
  pub passes : (x ≡ 0) ↔ (Accepted p G H × Fits r w)
  pub only : (x ≤ 8) ⊎ (x ≡ 14)

pub record RecordTabled (p : ℕ) (G H B : List ℕ) (x : ℕ) : Type 0 where
  pub field : FieldTabled p G H x
  pub no_record : (x ≡ 9) ↔ (Accepted p G H × (IsRecord p G H B → ⊥))
  pub passes : (x ≡ 0) ↔ (Accepted p G H × IsRecord p G H B)
  pub only : x ≤ 9

pub record WalkTabled (p : ℕ) (G H : List ℕ) (n : ℕ) (B : List ℕ) (x : ℕ) : Type 0 where
  pub field : FieldTabled p G H x
  pub out_of_rule : (x ≡ 14) ↔ (Accepted p G H × (most < n))
  pub no_record : (x ≡ 9) ↔ (Accepted p G H × (n ≤ most) × (IsRecord p G H B → ⊥))
  -- "10 is given exactly when no count from 1 to B closes"
  pub no_closing : (x ≡ 10) ↔ ((A : Accepted p G H) × (n ≤ most) × IsRecord p G H B × Open (setting A) (basis_of A B) n)
  pub passes : (x ≡ 0) ↔ ((A : Accepted p G H) × (n ≤ most) × IsRecord p G H B × ClosesWithin (setting A) (basis_of A B) n)
  pub only : (x ≤ 10) ⊎ (x ≡ 14)

pub record PeriodTabled (p : ℕ) (G H : List ℕ) (n : ℕ) (x : ℕ) : Type 0 where
  pub field : FieldTabled p G H x
  pub out_of_rule : (x ≡ 14) ↔ (Accepted p G H × (most < n))
  pub no_closing : (x ≡ 10)
      ↔ ((A : Accepted p G H) × (n ≤ most) × (B₀ : Basis (setting A)) × Start (setting A) B₀ × Open (setting A) B₀ n)
  pub passes : (x ≡ 0)
      ↔ ((A : Accepted p G H) × (n ≤ most) × (B₀ : Basis (setting A)) × Start (setting A) B₀ × ClosesWithin (setting A) B₀ n)
  pub only : (x ≤ 8) ⊎ (x ≡ 10) ⊎ (x ≡ 14)

pub record UnitWithin {p : ℕ} {G H : List ℕ} (A : Accepted p G H) (n k : ℕ) : Type 0 where
  pub convention : Convention
  pub B₀ : Basis (setting A)
  pub E : (O (setting A)).El
  pub F : (O (setting A)).El
  pub l : ℕ
  pub d : ℕ
  pub unit : UnitOf (setting A) convention B₀ l d E F
  pub within : l ≤ n
  pub degree : Has (setting A).𝓥 (ev (setting A) E) k

pub record UnitTabled (i p : ℕ) (G H : List ℕ) (n : ℕ) (rows scratch : List ℕ) (x : ℕ) : Type 0 where
  pub field : FieldTabled p G H x
  -- "lent lengths or B out of their rule", "any other convention number": there are no convention and no c for which they are within it
  pub out_of_rule : (x ≡ 14) ↔ (Accepted p G H × ((by : Convention) (c : ℕ) → Lent i by c rows scratch n → ⊥))
  pub no_closing : (x ≡ 10)
      ↔ ((A : Accepted p G H) × (by : Convention) × (c : ℕ) × Lent i by c rows scratch n × (B₀ : Basis (setting A)) × Start (setting A) B₀ × Open (setting A) B₀ n)
  -- "11 for a unit is given exactly when c is less than deg E + 1"
  pub no_room : (x ≡ 11) ↔ ((A : Accepted p G H) × (by : Convention) × (c k : ℕ) × Lent i by c rows scratch n × UnitWithin A n k × (c < k + 1))
  pub passes : (x ≡ 0) ↔ ((A : Accepted p G H) × (by : Convention) × (c k : ℕ) × Lent i by c rows scratch n × UnitWithin A n k × (k + 1 ≤ c))
  pub only : (x ≤ 8) ⊎ (x ≡ 10) ⊎ (x ≡ 11) ⊎ (x ≡ 14)
