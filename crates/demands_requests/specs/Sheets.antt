-- Request E2: "It advances each walk record in the lent list by at most B steps, in list order. .. The outcome must be what the single calls
-- give record by record."
--   SheetTabled n b x      the table of `sheet`: exactly when it answers with the number x
--   Field r, BasisOf r B   the field of r is accepted; B is a basis of it
--   Fit b r                a record and a budget that 14 is not for
--   AdvanceTabled b r s    the table of a record that is not passed over: exactly when its state is s afterwards
--   At rs i r              the record number i of rs is r
--   Picked rs is qs        qs are the records of rs at the places `is`, in that order, any of them any number of times
--   GoesOn rs              every open record of rs has at most 1,000,000,000 steps
--   Stands B r             r is where the chain from the basis B stands after its steps: open, and no count so far has closed, or closed, at the
--                          first count that closes
--   OneField r r'          two records of one list G and one list H, with and without zeros above them, and else the same
--   Sheets                 what holds of sheets, and of one record advanced
-- `Advances` is in door_record/specs/Advance, `Sheet` in door_sheet/specs/Sheet, `Unfit`, `marked` in walk_record/specs/Record, the codes of states
-- in walk_record/specs/State. Theorem `sheets` (proofs/Sheets).
use Rattle.std.specs.Prelude.{◌≡◌, ◌⊎◌, ◌↔◌, List, [], ◌∷◌, ℕ, zero, suc, ◌+◌, ◌≤◌, ◌<◌, length}
use Rattle.base_answers.specs.Limits.{most}
use Rattle.field_open.specs.Refusal.{Accepted}
use Rattle.math_chain.specs.Chain.{Open}
use Rattle.basis_record.specs.Record.{setting, basis_of, IsRecord}
use Rattle.basis_field.specs.First.{IsFirst}
use Rattle.walk_chain.specs.Walk.{Reaches, StaysOpen, Closes}
use Rattle.walk_record.specs.declared.WalkRecord.{WalkRecord}
use Rattle.walk_record.specs.State.{going, closed, IsRefusal, Passed}
use Rattle.walk_record.specs.Record.{most_steps, Beyond, list_g, list_h, marked, Unfit}
use Rattle.door_period.specs.Order.{PeriodAnswer, FromOrder}
use Rattle.door_record.specs.Advance.{Advances}
use Rattle.door_sheet.specs.Sheet.{Sheet}
use Rattle.demands.specs.Tabled.{FieldTabled, ClosesWithin}
use Rattle.demands.specs.Meaning.{BackFirst}

-- "Refusals: 14 for over 64 records or B out of its rule, with nothing changed"
pub record SheetTabled (n b x : ℕ) : Type 0 where
  pub out_of_rule : (x ≡ 14) ↔ Beyond n b
  pub passes : (x ≡ 0) ↔ (Beyond n b → ⊥)
  pub only : (x ≡ 0) ⊎ (x ≡ 14)

abbrev pub Field : WalkRecord → Type 0
Field r = Accepted r.p (list_g r) (list_h r)

abbrev pub BasisOf : WalkRecord → List ℕ → Type 0
BasisOf r B = IsRecord r.p (list_g r) (list_h r) B

abbrev pub Fit : ℕ → WalkRecord → Type 0
Fit b r = (Unfit r → ⊥) × (b ≤ most)

-- "within a record 1 to 8, then 14, then 9"
pub record AdvanceTabled (b : ℕ) (r : WalkRecord) (s : ℕ) : Type 0 where
  pub field : FieldTabled r.p (list_g r) (list_h r) s
  pub out_of_rule : (s ≡ 14) ↔ (Field r × (Unfit r ⊎ (most < b)))
  pub no_record : (s ≡ 9) ↔ (Field r × Fit b r × (BasisOf r r.basis → ⊥))
  -- "A record that spends B without closing stays open"
  pub stays : (s ≡ going) ↔ ((A : Field r) × Fit b r × BasisOf r r.basis × Open (setting A) (basis_of A r.basis) b)
  pub closes : (s ≡ closed) ↔ ((A : Field r) × Fit b r × BasisOf r r.basis × ClosesWithin (setting A) (basis_of A r.basis) b)
  pub only : (s ≡ going) ⊎ Passed s

abbrev pub At : List WalkRecord → ℕ → WalkRecord → Type 0
At [] i r = ⊥
At (q ∷ rs) zero r = r ≡ q
At (q ∷ rs) (suc i) r = At rs i r

abbrev pub Picked : List WalkRecord → List ℕ → List WalkRecord → Type 0
Picked rs [] [] = Unit {0}
Picked rs [] (q ∷ qs) = ⊥
Picked rs (i ∷ is) [] = ⊥
Picked rs (i ∷ is) (q ∷ qs) = At rs i q × Picked rs is qs

abbrev pub GoesOn : List WalkRecord → Type 0
GoesOn rs = (i : ℕ) (r : WalkRecord) → At rs i r → r.state ≡ going → r.steps ≤ most_steps

pub data Stands (B : List ℕ) (r : WalkRecord) : Type 0 where
  still_open :
      r.state ≡ going →
      Reaches r.p (list_g r) (list_h r) B r.steps r.sum r.basis → StaysOpen r.p (list_g r) (list_h r) B r.steps →
      Stands B r
  has_closed : r.state ≡ closed → Closes r.p (list_g r) (list_h r) B r.steps r.sum r.basis → Stands B r

pub record OneField (r r' : WalkRecord) : Type 0 where
  pub p : r.p ≡ r'.p
  pub G : list_g r ≡ list_g r'
  pub H : list_h r ≡ list_h r'
  pub basis : r.basis ≡ r'.basis
  pub steps : r.steps ≡ r'.steps
  pub sum : r.sum ≡ r'.sum
  pub state : r.state ≡ r'.state

pub record Sheets : Type 0 where
  pub tabled : {rs os : List WalkRecord} {b n : ℕ} → Sheet rs b n os → SheetTabled (length rs) b n
  -- "The outcome must be what the single calls give record by record"
  pub each :
      {rs os : List WalkRecord} {b n : ℕ} → Sheet rs b n os → n ≡ 0 →
      (i : ℕ) (r o : WalkRecord) → At rs i r → At os i o → Advances b r o
  pub every :
      {rs os : List WalkRecord} {b n : ℕ} → Sheet rs b n os → n ≡ 0 →
      length os ≡ length rs
  -- ".. doesn't disturb its neighbours": the sheet of any of the records, in any order, gives the same of each
  pub picked :
      {rs os qs zs : List WalkRecord} {b n : ℕ} → Sheet rs b n os → n ≡ 0 →
      (is : List ℕ) → length is ≤ 64 → Picked rs is qs → Picked os is zs →
      Sheet qs b 0 zs
  -- "A record whose state is closed or a refusal (1 to 9 or 14) is passed over unchanged, whatever else it holds"
  pub passed_over : {b : ℕ} {r o : WalkRecord} → Advances b r o → Passed r.state → o ≡ r
  pub advanced : {b : ℕ} {r o : WalkRecord} → Advances b r o → (Passed r.state → ⊥) → AdvanceTabled b r o.state
  -- "Nothing else of it changes"
  pub refused : {b : ℕ} {r o : WalkRecord} → Advances b r o → IsRefusal o.state → o ≡ marked r o.state
  -- its field never changes
  pub field_kept :
      {b : ℕ} {r o : WalkRecord} → Advances b r o →
      (o.p ≡ r.p) × (o.g ≡ r.g) × (o.ng ≡ r.ng) × (o.h ≡ r.h) × (o.nh ≡ r.nh)
  -- zeros above the coefficients of G and H change nothing
  pub padded :
      {b : ℕ} {r r' o o' : WalkRecord} → OneField r r' → Advances b r o → Advances b r' o' →
      OneField o o'
  -- two sheets one after the other, with budgets b and c, are one with b + c, of every record but one whose steps pass 1,000,000,000 between
  pub together :
      {b c : ℕ} {r o z : WalkRecord} → b + c ≤ most →
      Advances b r o → Advances c o z → (o.state ≡ going → o.steps ≤ most_steps) →
      Advances (b + c) r z
  pub sheets_together :
      {b c n m : ℕ} {rs os zs : List WalkRecord} → b + c ≤ most →
      Sheet rs b n os → n ≡ 0 → Sheet os c m zs → m ≡ 0 → GoesOn os →
      Sheet rs (b + c) 0 zs
  -- a record that is left open is refused by the next sheet for its steps alone
  pub goes_on :
      {b c : ℕ} {r o z : WalkRecord} → c ≤ most →
      Advances b r o → o.state ≡ going → Advances c o z → IsRefusal z.state →
      (most_steps < o.steps) × (z ≡ marked o 14)
  -- a record stands in the chain from a basis of its field, and stays there
  pub begins :
      {B : List ℕ} {r : WalkRecord} → BasisOf r B →
      r.basis ≡ B → r.steps ≡ 0 → r.sum ≡ 0 → r.state ≡ going →
      Stands B r
  pub stands :
      {B : List ℕ} {b : ℕ} {r o : WalkRecord} → Field r → BasisOf r B →
      b ≤ most → Stands B r → (r.state ≡ going → r.steps ≤ most_steps) →
      Advances b r o → Stands B o
  -- from the order: the first count at which the chain is back, and what `from_order` answers
  pub period :
      {B : List ℕ} {r : WalkRecord} → IsFirst r.p (list_g r) (list_h r) B → Stands B r → r.state ≡ closed →
      (A : Field r) → BackFirst (setting A) (basis_of A B) r.steps r.sum
  pub agrees :
      {B : List ℕ} {n : ℕ} {r : WalkRecord} (t : PeriodAnswer) → IsFirst r.p (list_g r) (list_h r) B → Stands B r → r.state ≡ closed →
      FromOrder r.p (list_g r) (list_h r) n t → t.refusal ≡ 0 →
      (t.period.0 ≡ r.steps) × (t.regulator.0 + t.regulator.0 ≡ r.sum)
