-- Demand 1: "Every prime, pair of lists, basis, budget, buffer, book or text line brings an answer or a numbered refusal. Nobody checks
-- beforehand. A refusal writes nothing to a lent buffer, and all of its answer is fixed by the input."
--   Demand1   the demand, in three groups of fields
-- How to read it: that there is an answer at all, for every input and with nothing asked beforehand, is what the checker proves of a
-- function without `requires`; here is what the answers are like. `numbered` says which numbers come (the table is in Numbers.antt),
-- a field `.._kept` that a refusal leaves what is lent as it was, `.._fixed` that two outcomes of one input are equal: results, and slices
-- after the call. G and H are the lists that a function reads, without the zeros at their ends; that lists with and without them have one
-- answer is Padded.antt. The functions for C and Rust have a record of their own, `FromC` (FromC.antt). docs/ENTRY-POINTS.md lists the
-- fields by function.
-- The theorem `demand_1` is in proofs/Demand1.antt.
use Rattle.std.specs.Prelude.{◌≡◌, ◌≢◌, Option, List, ℕ, ◌<◌, length, take}
use Rattle.base_answers.specs.Said.{Said}
use Rattle.field_open.specs.Refusal.{Refusal}
use Rattle.field_open.specs.Opening.{Opens, FieldAnswer}
use Rattle.field_series.specs.Answer as series
use Rattle.field_series.specs.Answer.{OpenedAnswer}
use Rattle.door_order.specs.Answer.{OrderAnswer, Orders}
use Rattle.door_check.specs.Answer.{Checks}
use Rattle.door_step.specs.Answer.{StepAnswer, Answers}
use Rattle.walk_chain.specs.Walk.{WalkAnswer, Walks}
use Rattle.door_period.specs.Order.{PeriodAnswer, FromOrder}
use Rattle.door_unit.specs.Unit.{UnitAnswer, Makes}
use Rattle.door_compare.specs.Answer.{CompareAnswer, Refusals, Compares}
use Rattle.door_transfer.specs.Transfer.{Transfers}
use Rattle.door_rescale.specs.Rescale.{Rescales}
use Rattle.walk_record.specs.declared.WalkRecord.{WalkRecord}
use Rattle.door_record.specs.Advance.{Advances}
use Rattle.door_sheet.specs.Sheet.{Sheet}
use Rattle.book_body.specs.Body.{Body}
use Rattle.book_body.specs.Code.{ListTells}
use Rattle.book_write.specs.Write.{WriteTells}
use Rattle.book_check.specs.Answer.{Tells, AskTells, AskedPart}
use Rattle.book_add.specs.Add.{AddTells}
use Rattle.book_attest.specs.Attest.{AttestTells}
use Rattle.text_cut.specs.Tells.{CutTells}
use Rattle.text_cut.specs.Feed.{Output}
use Rattle.text_cut.specs.declared.Step.{Step}
use Rattle.text_read.specs.Tells.{ParseTells}
use Rattle.text_read.specs.declared.Line.{Line}
use Rattle.text_end.specs.Ends.{Ends}
use Rattle.lister.specs.Listing as lister
use Rattle.lister.specs.declared.Going.{Going}
use Rattle.demands_calls.specs.Numbers.{Numbered, parse_says, Gives}
use Rattle.demands_calls.specs.FromC.{FromC}

pub record Demand1 : Type 0 where
  -- "an answer or a numbered refusal"
  pub numbered : {k : ℕ} {l : List ℕ} {n : ℕ} → Gives k l n → Numbered k l n
  -- "A refusal writes nothing to a lent buffer"
  pub series_kept :
      {p n : ℕ} {G H r w r' w' : List ℕ} →
      series.Answer p G H r w r' w' n → n ≢ 0 →
      (r' ≡ r) × (w' ≡ w)
  pub unit_kept :
      {i p n : ℕ} {G H rows scratch rows' scratch' : List ℕ} (m : UnitAnswer) →
      Makes i p G H n rows scratch m rows' scratch' → m.refusal ≢ 0 →
      (rows' ≡ rows) × (scratch' ≡ scratch)
  pub transfer_kept :
      {p n : ℕ} {G H G' H' rows rows' : List ℕ} →
      Transfers p G H G' H' rows n rows' → n ≢ 0 →
      rows' ≡ rows
  pub rescale_kept : {p i j n : ℕ} {G H rows rows' : List ℕ} → Rescales p G H i j rows n rows' → n ≢ 0 → rows' ≡ rows
  pub sheet_kept : {rs os : List WalkRecord} {b n : ℕ} → Sheet rs b n os → n ≢ 0 → os ≡ rs
  pub list_kept : {k : ℕ} {s d d' : List ℕ} {x : Said} → ListTells s k d x d' → x.number ≢ 0 → d' ≡ d
  pub write_kept : {b : Body} {d d' : List ℕ} {x : Said} → WriteTells b d x d' → x.number ≢ 0 → d' ≡ d
  pub add_kept : {n : ℕ} {d b d' : List ℕ} {x : Said} → AddTells d n b x d' → x.number ≢ 0 → d' ≡ d
  pub parse_kept :
      (line g h : List ℕ) (r : Option Line) (g' h' : List ℕ) →
      ParseTells line g h r g' h' → parse_says r ≢ 0 →
      (g' ≡ g) × (h' ≡ h)
  -- the answer to a line goes into the slice from the place `at` on: what stands before it stays, and so does the slice's length
  pub answer_kept :
      {line d : List ℕ} {at r : ℕ} {d' : List ℕ} →
      lister.Answer line d at r d' →
      (take at d' ≡ take at d) × (length d' ≡ length d)
  -- a slice that is too short for any answer: `pass` goes no step
  pub pass_kept :
      {k s d : List ℕ} {g r : Going} {k' d' : List ℕ} →
      lister.Passes k s d g r k' d' → length d < lister.room →
      (r ≡ g) × (k' ≡ k) × (d' ≡ d)
  -- "all of its answer is fixed by the input": a field
  pub refusal_fixed : (p : ℕ) (G H : List ℕ) (m n : ℕ) → Refusal p G H m → Refusal p G H n → m ≡ n
  pub open_fixed : {p : ℕ} {G H : List ℕ} (o o' : FieldAnswer) → Opens p G H o → Opens p G H o' → o ≡ o'
  pub series_fixed :
      {p n n' : ℕ} {G H r w r₁ w₁ r₂ w₂ : List ℕ} →
      series.Answer p G H r w r₁ w₁ n → series.Answer p G H r w r₂ w₂ n' →
      (n ≡ n') × (r₁ ≡ r₂) × (w₁ ≡ w₂)
  pub open_series_fixed :
      {p : ℕ} {G H : List ℕ} (o o' : OpenedAnswer) →
      series.Expands p G H o → series.Expands p G H o' →
      o ≡ o'
  pub order_fixed : {p : ℕ} {G H : List ℕ} (o o' : OrderAnswer) → Orders p G H o → Orders p G H o' → o ≡ o'
  pub check_fixed : (p : ℕ) (G H B : List ℕ) (n n' : ℕ) → Checks p G H B n → Checks p G H B n' → n ≡ n'
  pub step_fixed : {p : ℕ} {G H B : List ℕ} (s s' : StepAnswer) → Answers p G H B s → Answers p G H B s' → s ≡ s'
  pub walk_fixed : {p n : ℕ} {G H B : List ℕ} (v w : WalkAnswer) → Walks p G H n B v → Walks p G H n B w → v ≡ w
  pub from_order_fixed :
      {p n : ℕ} {G H : List ℕ} (v w : PeriodAnswer) →
      FromOrder p G H n v → FromOrder p G H n w →
      v ≡ w
  pub unit_fixed :
      {i p n : ℕ} {G H rows scratch r s r' s' : List ℕ} (m m' : UnitAnswer) →
      Makes i p G H n rows scratch m r s → Makes i p G H n rows scratch m' r' s' →
      (m ≡ m') × (r ≡ r') × (s ≡ s')
  pub rescale_fixed :
      {p i j n n' : ℕ} {G H rows r r' : List ℕ} →
      Rescales p G H i j rows n r → Rescales p G H i j rows n' r' →
      (n ≡ n') × (r ≡ r')
  -- walk records
  pub advance_fixed : {b : ℕ} {r o o' : WalkRecord} → Advances b r o → Advances b r o' → o ≡ o'
  pub sheet_fixed :
      {b n n' : ℕ} {rs os os' : List WalkRecord} →
      Sheet rs b n os → Sheet rs b n' os' →
      (n ≡ n') × (os ≡ os')
  -- two pairs
  pub pairs_fixed : {p m n : ℕ} {G H G' H' : List ℕ} → Refusals p G H G' H' m → Refusals p G H G' H' n → m ≡ n
  pub compare_fixed :
      {p : ℕ} {G H G' H' : List ℕ} (a b : CompareAnswer) →
      Compares p G H G' H' a → Compares p G H G' H' b →
      a ≡ b
  pub transfer_fixed :
      {p n n' : ℕ} {G H G' H' rows r r' : List ℕ} →
      Transfers p G H G' H' rows n r → Transfers p G H G' H' rows n' r' →
      (n ≡ n') × (r ≡ r')
  -- the book
  pub check_book_fixed : {s : List ℕ} {x y : Said} → Tells s x → Tells s y → x ≡ y
  pub ask_fixed : {s : List ℕ} {i : ℕ} {x y : Said} → AskTells s i x → AskTells s i y → x ≡ y
  pub part_fixed : {s : List ℕ} {i : ℕ} {r q : List ℕ} → AskedPart s i r → AskedPart s i q → r ≡ q
  pub attest_fixed : {s : List ℕ} {i : ℕ} {x y : Said} → AttestTells s i x → AttestTells s i y → x ≡ y
  pub list_fixed :
      {s d e f : List ℕ} {k : ℕ} {x y : Said} →
      ListTells s k d x e → ListTells s k d y f →
      (x ≡ y) × (e ≡ f)
  pub write_fixed :
      {b : Body} {d e f : List ℕ} {x y : Said} →
      WriteTells b d x e → WriteTells b d y f →
      (x ≡ y) × (e ≡ f)
  pub add_fixed :
      {n : ℕ} {d b e f : List ℕ} {x y : Said} →
      AddTells d n b x e → AddTells d n b y f →
      (x ≡ y) × (e ≡ f)
  -- a line of text; what goes through an input piece by piece; the whole output to an input
  pub parse_fixed :
      (line g h : List ℕ) (r q : Option Line) (g₁ h₁ g₂ h₂ : List ℕ) →
      ParseTells line g h r g₁ h₁ → ParseTells line g h q g₂ h₂ →
      (r ≡ q) × (g₁ ≡ g₂) × (h₁ ≡ h₂)
  pub line_fixed : {line t u : List ℕ} → lister.Lists line t → lister.Lists line u → t ≡ u
  pub answer_fixed :
      {line d : List ℕ} {at r q : ℕ} {e f : List ℕ} →
      lister.Answer line d at r e → lister.Answer line d at q f →
      (r ≡ q) × (e ≡ f)
  pub next_line_fixed :
      (k : List ℕ) (n : ℕ) (s : List ℕ) (at : ℕ) (r q : Step) (k₁ k₂ : List ℕ) →
      CutTells k n s at r k₁ → CutTells k n s at q k₂ →
      (r ≡ q) × (k₁ ≡ k₂)
  pub pass_fixed :
      {k s d : List ℕ} {g r q : Going} {k₁ k₂ d₁ d₂ : List ℕ} →
      lister.Passes k s d g r k₁ d₁ → lister.Passes k s d g q k₂ d₂ →
      (r ≡ q) × (k₁ ≡ k₂) × (d₁ ≡ d₂)
  pub end_fixed : (d : List ℕ) (n r q : ℕ) (e f : List ℕ) → Ends d n r e → Ends d n q f → (r ≡ q) × (e ≡ f)
  pub output_fixed : (input t u : List ℕ) → Output lister.Lists input t → Output lister.Lists input u → t ≡ u
  -- the functions for C and Rust
  pub from_c : FromC
