-- Request E8: "for every accepted field and every closing walk, no unit of the order has a degree strictly between 0 and that of E, and every
-- unit is a non-zero constant times a power of E, negative powers and the zeroth included."
--   SmallestRows k p G H m rows   rows beside the answer m hold the smallest unit scaled by the convention k and its inverse, and every unit is a
--                               constant times a power of it
--   SmallestUnit                the request: of every closing chain, of what the functions answer, of what refusal 10 says, and what follows
-- How to read it: A says that the field is accepted, `setting A` is the field with its series; a unit of the order is `Invertible`, and its
-- degree is that of its series. `UnitOf k B₀ l d E F`: from the order's basis B₀ the chain closes first after l steps, with the degree sum d, and
-- E is the unit scaled by the convention k, F its inverse; `Makes i ..`: the answer under the convention with the number i. `Fundamental`,
-- `Smallest`, `LeastDegree` and `NoneBetween` are in crate math_fundamental, specs/Smallest.antt.
-- The theorem `smallest_unit` is in proofs/Smallest.antt.
use Rattle.std.specs.Prelude.{◌≡◌, List, ℕ, suc, ◌+◌, ◌*◌, ◌≤◌, length}
use Rattle.math_valued.specs.Degree.{Has}
use Rattle.math_valued.specs.Polynomial.{IsUnit}
use Rattle.field_open.specs.Refusal.{Accepted}
use Rattle.math_ideals.specs.Setting.{P}
use Rattle.math_ideals.specs.Element.{O, sc, ev, norm}
use Rattle.math_ideals.specs.Ideal.{Basis}
use Rattle.math_ideals.specs.Next.{Start}
use Rattle.math_chain.specs.Chain.{Closing}
use Rattle.math_chain.specs.Convention.{Convention, number}
use Rattle.math_chain.specs.Unit.{Invertible, UnitOf}
use Rattle.math_fundamental.specs.Complete.{Completeness}
use Rattle.math_fundamental.specs.Smallest.{NoneBetween, LeastDegree, Smallest, Fundamental}
use Rattle.basis_record.specs.Record.{setting}
use Rattle.pair_laws.specs.OneField.{OneField}
use Rattle.basis_field.specs.First.{IsFirst}
use Rattle.walk_chain.specs.Walk.{WalkAnswer, Walks}
use Rattle.door_period.specs.Order.{PeriodAnswer, FromOrder}
use Rattle.door_unit.specs.Unit.{UnitAnswer, Makes}
use Rattle.unit_finish.specs.Rows.{six}

pub record SmallestRows (k : Convention) (p : ℕ) (G H : List ℕ) (m : UnitAnswer) (rows : List ℕ) : Type 0 where
  -- six rows of c numbers: E0, E1, E2, F0, F1, F2
  pub c : ℕ
  pub long : length rows ≡ 6 * c
  -- E is the smallest unit of positive degree so scaled, and its degree is twice the regulator
  pub smallest : (A : Accepted p G H) → Smallest (setting A) k (six A c 0 rows) (m.regulator.0 + m.regulator.0)
  pub fundamental : (A : Accepted p G H) → Fundamental (setting A) (six A c 0 rows) (six A c (c + c + c) rows) (m.regulator.0 + m.regulator.0)

pub record SmallestUnit : Type 0 where
  -- of every closing walk from the order of an accepted field: E the unit, F its inverse, d its degree
  pub fundamental :
      {p : ℕ} {G H : List ℕ} (A : Accepted p G H) (B₀ : Basis (setting A)) {k : Convention} {l d : ℕ} {E F : (O (setting A)).El} →
      UnitOf (setting A) k B₀ l d E F →
      Fundamental (setting A) E F d
  -- the degree sum of a closing chain from the order is the least positive degree of a unit
  pub closing_least :
      {p : ℕ} {G H : List ℕ} (A : Accepted p G H) (B₀ : Basis (setting A)) → Start (setting A) B₀ →
      {l d : ℕ} {B : Basis (setting A)} → Closing (setting A) B₀ l d B →
      LeastDegree (setting A) d
  -- the general form: a reduced ideal J with E·J = O and deg E ≥ 0 stands in the chain
  pub complete : {p : ℕ} {G H : List ℕ} (A : Accepted p G H) → Completeness (setting A)
  -- the rows that `unit` returns are the smallest unit of positive degree scaled by the convention that the number i names, and its inverse
  pub unit_rows :
      {i p n : ℕ} {G H rows scratch rows' scratch' : List ℕ} (m : UnitAnswer) →
      Makes i p G H n rows scratch m rows' scratch' → m.refusal ≡ 0 →
      (k : Convention) × (number k ≡ i) × SmallestRows k p G H m rows'
  -- the regulator that `from_order` returns is half the least positive degree of a unit
  pub regulator :
      {p n : ℕ} {G H : List ℕ} (o : PeriodAnswer) →
      FromOrder p G H n o → o.refusal ≡ 0 →
      (A : Accepted p G H) → LeastDegree (setting A) (o.regulator.0 + o.regulator.0)
  -- the degree sum that `walk` returns from the order's record, when it closes, is that degree
  pub walk_sum :
      {p n : ℕ} {G H B : List ℕ} (w : WalkAnswer) → IsFirst p G H B →
      Walks p G H n B w → w.refusal ≡ 0 →
      (A : Accepted p G H) → LeastDegree (setting A) w.sum
  -- refusal 10: no unit has a degree from 1 to the budget, or from 1 to the degree sum that a walk hands out; refusal 11: none has one below c
  pub regulator_open :
      {p n : ℕ} {G H : List ℕ} (o : PeriodAnswer) →
      FromOrder p G H n o → o.refusal ≡ 10 →
      (A : Accepted p G H) → NoneBetween (setting A) (suc n)
  pub walk_open :
      {p n : ℕ} {G H B : List ℕ} (w : WalkAnswer) → IsFirst p G H B →
      Walks p G H n B w → w.refusal ≡ 10 →
      (A : Accepted p G H) → NoneBetween (setting A) (suc w.sum)
  pub unit_open :
      {i p n : ℕ} {G H rows scratch rows' scratch' : List ℕ} (m : UnitAnswer) →
      Makes i p G H n rows scratch m rows' scratch' → m.refusal ≡ 10 →
      (A : Accepted p G H) → NoneBetween (setting A) (suc n)
  pub unit_narrow :
      {i p n : ℕ} {G H rows scratch rows' scratch' : List ℕ} (m : UnitAnswer) →
      Makes i p G H n rows scratch m rows' scratch' → m.refusal ≡ 11 →
      (c : ℕ) → length rows ≡ 6 * c →
      (A : Accepted p G H) → (d : ℕ) × LeastDegree (setting A) d × (c ≤ d)
  -- the chain closes where the order has a unit of positive degree, and with no larger degree sum
  pub closes :
      {p : ℕ} {G H : List ℕ} (A : Accepted p G H) (B₀ : Basis (setting A)) → Start (setting A) B₀ →
      {n : ℕ} (η : (O (setting A)).El) → Invertible (setting A) η → Has (setting A).𝓥 (ev (setting A) η) n → 1 ≤ n →
      (l d : ℕ) × (B : Basis (setting A)) × Closing (setting A) B₀ l d B × (d ≤ n)
  -- the least positive degree is one, and so is the smallest unit under a convention
  pub least_unique :
      {p : ℕ} {G H : List ℕ} (A : Accepted p G H) (c d : ℕ) →
      LeastDegree (setting A) c → LeastDegree (setting A) d →
      c ≡ d
  pub smallest_unique :
      {p : ℕ} {G H : List ℕ} (A : Accepted p G H) {k : Convention} {c d : ℕ} {E E' : (O (setting A)).El} →
      Smallest (setting A) k E c → Smallest (setting A) k E' d →
      (c ≡ d) × (E ≡ E')
  -- an element of the order of constant norm and of the unit's degree is the unit up to a constant
  pub constant_norm :
      {p : ℕ} {G H : List ℕ} (A : Accepted p G H) (B₀ : Basis (setting A)) {k : Convention} {l d : ℕ} {E F : (O (setting A)).El} →
      UnitOf (setting A) k B₀ l d E F →
      (x : (O (setting A)).El) → IsUnit (setting A).𝓥 (norm (setting A) x) → Has (setting A).𝓥 (ev (setting A) x) d →
      (c : P (setting A)) × IsUnit (setting A).𝓥 c × (x ≡ (O (setting A)).ops.mul (sc (setting A) c) E)
  -- the least degrees of two pairs of one field agree
  pub one_field :
      {p : ℕ} {G H G' H' : List ℕ} (A : Accepted p G H) (A' : Accepted p G' H') → OneField p G H G' H' →
      (c d : ℕ) → LeastDegree (setting A) c → LeastDegree (setting A') d →
      c ≡ d
  -- two walks that close agree, whatever their budgets, and so do two units under one convention, whatever their room
  pub walks_agree :
      {p n n' : ℕ} {G H : List ℕ} (o o' : PeriodAnswer) →
      FromOrder p G H n o → o.refusal ≡ 0 →
      FromOrder p G H n' o' → o'.refusal ≡ 0 →
      o ≡ o'
  pub units_agree :
      {i p n n' : ℕ} {G H rows scratch r s rows' scratch' r' s' : List ℕ} (m m' : UnitAnswer) →
      Makes i p G H n rows scratch m r s → m.refusal ≡ 0 →
      Makes i p G H n' rows' scratch' m' r' s' → m'.refusal ≡ 0 →
      (c c' : ℕ) → length r ≡ 6 * c → length r' ≡ 6 * c' →
      (m ≡ m') × ((A : Accepted p G H) → (six A c 0 r ≡ six A c' 0 r') × (six A c (c + c + c) r ≡ six A c' (c' + c' + c') r'))
