-- Demand 2: "Each basis handed out is the one scaled reduced basis of the ideal it stands for; the period is the first count of steps at
-- which the chain is back at the whole order, the regulator half the degree passed, the unit the product of the minima passed, scaled by
-- the named convention. A book written reads back as the same rows, and an accepted book has one writing." (Request E6: "Demand 2's "E0
-- monic" reads "scaled by the named convention"".)
--   BackFirst B₀ l d        l is the first count of steps at which the chain from B₀ is back at the whole order, and d the degree passed
--   UnitRows k p G H m rows the rows beside the answer m hold the unit, scaled by the convention k, and its inverse, with m's period and
--                           regulator
--   Demand2                 the demand, a field for each clause and each function that it speaks of
-- How to read it: each field takes an outcome that meets the contract of a public function and gives its meaning in the words of the
-- theory; after `≡ 0` it is no refusal. `Start B` says that B is the scaled reduced basis of the whole order. When each refusal comes is
-- in specs/Tabled.antt, what walks taken up again are in specs/TakenUp.antt. G and H, here and in those, are the lists that a function reads:
-- without the zeros at their ends (`unpad`, field_open/specs/Padding.antt).
-- The theorem `demand_2` is in proofs/Demand2.antt.
use Rattle.std.specs.Prelude.{◌≡◌, ◌⊎◌, List, ℕ, ◌+◌, ◌*◌, ◌≤◌, ◌<◌, length}
use Rattle.math_valued.specs.Degree.{Has}
use Rattle.field_open.specs.Refusal.{Accepted}
use Rattle.field_series.specs.Answer as series
use Rattle.math_ideals.specs.Setting.{Setting}
use Rattle.math_ideals.specs.Element.{ev}
use Rattle.math_ideals.specs.Ideal.{Basis}
use Rattle.math_ideals.specs.Next.{Next, Same, Start}
use Rattle.math_chain.specs.Chain.{Degree, Chain}
use Rattle.math_chain.specs.Convention.{Convention, number}
use Rattle.math_chain.specs.Unit.{UnitOf}
use Rattle.basis_record.specs.Record.{setting, basis_of, IsRecord}
use Rattle.door_order.specs.Answer.{OrderAnswer, Orders}
use Rattle.door_check.specs.Answer.{Checks}
use Rattle.basis_field.specs.First.{IsFirst}
use Rattle.door_step.specs.Answer.{StepAnswer, Answers}
use Rattle.walk_chain.specs.Walk.{WalkAnswer, Walks, Reaches, Closes}
use Rattle.door_period.specs.Order.{PeriodAnswer, FromOrder}
use Rattle.door_unit.specs.Unit.{UnitAnswer, Lent, Makes}
use Rattle.unit_finish.specs.Rows.{six}
use Rattle.book_bytes.specs.Bytes.{Bytes}
use Rattle.book_body.specs.Body.{Body}
use Rattle.book_check.specs.Book as book
use Rattle.book_check.specs.Value.{Obeys, bytes_of_book, value_of, at}
use Rattle.demands.specs.Tabled.{OrderTabled, SeriesTabled, RecordTabled, WalkTabled, PeriodTabled, UnitTabled}
use Rattle.demands.specs.TakenUp.{TakenUp, Together}

pub record BackFirst (S : Setting) (B₀ : Basis S) (l d : ℕ) : Type 0 where
  pub some : 1 ≤ l
  pub back : Chain S B₀ l d B₀
  pub first : (m e : ℕ) (B : Basis S) → 1 ≤ m → m < l → Chain S B₀ m e B → Start S B → ⊥

pub record UnitRows (k : Convention) (p : ℕ) (G H : List ℕ) (m : UnitAnswer) (rows : List ℕ) : Type 0 where
  -- six rows of c coefficients: E from the first three, its inverse from the last three
  pub c : ℕ
  pub long : length rows ≡ 6 * c
  pub unit :
      (A : Accepted p G H) (B₀ : Basis (setting A)) →
      Start (setting A) B₀ →
      UnitOf (setting A) k B₀ m.period.0 (m.regulator.0 + m.regulator.0) (six A c 0 rows) (six A c (c + c + c) rows)
  pub period :
      (A : Accepted p G H) (B₀ : Basis (setting A)) →
      Start (setting A) B₀ →
      BackFirst (setting A) B₀ m.period.0 (m.regulator.0 + m.regulator.0)
  -- the regulator is half the degree of E, that of its series
  pub degree : (A : Accepted p G H) → Has (setting A).𝓥 (ev (setting A) (six A c 0 rows)) (m.regulator.0 + m.regulator.0)

pub record Demand2 : Type 0 where
  -- one ideal, one record
  pub one_basis :
      {p : ℕ} {G H : List ℕ} (A : Accepted p G H) (B B' : List ℕ) →
      IsRecord p G H B → IsRecord p G H B' →
      Same (setting A) (basis_of A B) (basis_of A B') →
      B ≡ B'
  -- what is handed out: by `order`, the basis of the whole order; by `step`, that of the ideal divided by m, with the degree of m; by
  -- `walk`, that of the ideal at the chain's end
  pub order_basis :
      {p : ℕ} {G H : List ℕ} (o : OrderAnswer) →
      Orders p G H o → o.refusal ≡ 0 →
      IsFirst p G H o.basis
  pub step_basis :
      {p : ℕ} {G H B : List ℕ} (s : StepAnswer) →
      Answers p G H B s → s.refusal ≡ 0 →
      IsRecord p G H s.basis
      × ((A : Accepted p G H) → Next (setting A) (basis_of A B) (basis_of A s.basis) × Degree (setting A) (basis_of A B) s.degree)
  pub walk_basis :
      {p n : ℕ} {G H B : List ℕ} (w : WalkAnswer) →
      Walks p G H n B w → (w.refusal ≡ 0) ⊎ (w.refusal ≡ 10) →
      Reaches p G H B w.steps w.sum w.basis
  -- the first closing count: of `walk` from any record the first after which U = 1; from the order's record, of `from_order` and beside a
  -- unit the first at which the chain is back at the whole order, with the degree passed or half of it
  pub walk_closing :
      {p n : ℕ} {G H B : List ℕ} (w : WalkAnswer) →
      Walks p G H n B w → w.refusal ≡ 0 →
      Closes p G H B w.steps w.sum w.basis
  pub walk_period :
      {p n : ℕ} {G H B : List ℕ} (w : WalkAnswer) →
      IsFirst p G H B →
      Walks p G H n B w → w.refusal ≡ 0 →
      (A : Accepted p G H) → BackFirst (setting A) (basis_of A B) w.steps w.sum
  pub period :
      {p n : ℕ} {G H : List ℕ} (o : PeriodAnswer) →
      FromOrder p G H n o → o.refusal ≡ 0 →
      (A : Accepted p G H) (B₀ : Basis (setting A)) →
      Start (setting A) B₀ →
      BackFirst (setting A) B₀ o.period.0 (o.regulator.0 + o.regulator.0)
  -- the unit the product of the minima passed, scaled by the convention that the number i names; `unit` names 1
  pub unit :
      {i p n : ℕ} {G H rows scratch rows' scratch' : List ℕ} (m : UnitAnswer) →
      Makes i p G H n rows scratch m rows' scratch' → m.refusal ≡ 0 →
      (k : Convention) × (number k ≡ i) × UnitRows k p G H m rows'
  -- walks taken up again, any number of them: one chain, and from the order period and twice the regulator
  pub taken_up :
      {p s d : ℕ} {G H B : List ℕ} {w : WalkAnswer} →
      TakenUp p G H B s d w →
      Together p G H B s d w
  pub taken_up_period :
      {p s d : ℕ} {G H B : List ℕ} {w : WalkAnswer} →
      IsFirst p G H B →
      TakenUp p G H B s d w → w.refusal ≡ 0 →
      (A : Accepted p G H) → BackFirst (setting A) (basis_of A B) s d
  pub taken_up_agrees :
      {p n s d : ℕ} {G H B : List ℕ} {w : WalkAnswer} (o : PeriodAnswer) →
      IsFirst p G H B →
      TakenUp p G H B s d w → w.refusal ≡ 0 →
      FromOrder p G H n o → o.refusal ≡ 0 →
      (o.period.0 ≡ s) × (o.regulator.0 + o.regulator.0 ≡ d)
  -- "refusals come exactly as tabled"
  pub order_tabled : {p : ℕ} {G H : List ℕ} (o : OrderAnswer) → Orders p G H o → OrderTabled p G H o.refusal
  pub series_tabled :
      {p x : ℕ} {G H r w r' w' : List ℕ} →
      series.Answer p G H r w r' w' x →
      SeriesTabled p G H r w x
  pub check_tabled : (p : ℕ) (G H B : List ℕ) (x : ℕ) → Checks p G H B x → RecordTabled p G H B x
  pub step_tabled : {p : ℕ} {G H B : List ℕ} (s : StepAnswer) → Answers p G H B s → RecordTabled p G H B s.refusal
  pub walk_tabled : {p n : ℕ} {G H B : List ℕ} (w : WalkAnswer) → Walks p G H n B w → WalkTabled p G H n B w.refusal
  pub period_tabled : {p n : ℕ} {G H : List ℕ} (o : PeriodAnswer) → FromOrder p G H n o → PeriodTabled p G H n o.refusal
  pub unit_tabled :
      {i p n : ℕ} {G H rows scratch rows' scratch' : List ℕ} (m : UnitAnswer) →
      Makes i p G H n rows scratch m rows' scratch' →
      UnitTabled i p G H n rows scratch m.refusal
  -- "B = 0 with nothing refused before is always 10"
  pub walk_zero :
      {p : ℕ} {G H B : List ℕ} (w : WalkAnswer) →
      Accepted p G H → IsRecord p G H B →
      Walks p G H 0 B w →
      w.refusal ≡ 10
  pub period_zero :
      {p : ℕ} {G H : List ℕ} (o : PeriodAnswer) →
      Accepted p G H →
      FromOrder p G H 0 o →
      o.refusal ≡ 10
  pub unit_zero :
      {k : Convention} {i p c : ℕ} {G H rows scratch rows' scratch' : List ℕ} (m : UnitAnswer) →
      Accepted p G H → Lent i k c rows scratch 0 →
      Makes i p G H 0 rows scratch m rows' scratch' →
      m.refusal ≡ 10
  -- the book
  pub written_accepted : (bs : List Body) → Obeys bs → book.Accepted (bytes_of_book bs)
  pub reads_back :
      (bs : List Body) →
      Obeys bs →
      (book.count (bytes_of_book bs) ≡ length bs) × ((i : ℕ) → i < length bs → book.entry (bytes_of_book bs) i ≡ at bs i)
  pub accepted_written :
      (s : List ℕ) →
      Bytes s → book.Accepted s →
      Obeys (value_of s) × (bytes_of_book (value_of s) ≡ s)
  pub one_writing :
      (bs cs : List Body) →
      Obeys bs → Obeys cs →
      bytes_of_book bs ≡ bytes_of_book cs →
      bs ≡ cs
