-- What the functions answer for two pairs of one field (request E3).
--   Counterpart B B'   two lists of 119 numbers, those of the first below p; the second is the first carried over
--   OrderSame          two answers to `order`: the same refusal, and after success counterparts
--   StepSame           two answers to `step`: and the same degree
--   WalkSame           two answers to `walk`: the same refusal, steps and sum, and counterparts where the walk closed or stopped
--   MadeSame           two answers to `unit`: the same refusal, period and regulator, and after success rows that carry over
--   AlikeFor, Alike    all of it, for two pairs and for all
-- The pairs need not be accepted: lists of coefficients are enough, and then the table of refusals says the same of both.
-- `alike` in proofs/Alike.antt proves it.
use Rattle.std.specs.Prelude.{◌≡◌, ◌⊎◌, List, ℕ, ◌*◌, ◌<◌, length, get_or}
use Rattle.field_open.specs.Refusal.{Refusal}
use Rattle.door_order.specs.Answer.{OrderAnswer, Orders}
use Rattle.door_step.specs.Answer.{StepAnswer, Answers}
use Rattle.walk_chain.specs.Walk.{WalkAnswer, Walks}
use Rattle.door_period.specs.Order.{PeriodAnswer, FromOrder}
use Rattle.door_unit.specs.Unit.{UnitAnswer, Makes}
use Rattle.math_chain.specs.Convention.{Convention}
use Rattle.unit_finish.specs.Rows.{Holds}
use Rattle.pair_laws.specs.OneField.{OneField}
use Rattle.pair_agree.specs.Answer.{Coefficients}
use Rattle.pair_laws.specs.Rows.{RowsCarry, RecordCarries}
use Rattle.door_transfer.specs.Transfer.{Transfers}

module _ (p : ℕ) (G H G' H' : List ℕ) where
  pub record Counterpart (B B' : List ℕ) : Type 0 where
    pub size : length B ≡ 119
    pub size' : length B' ≡ 119
    pub below : (i : ℕ) → get_or B i 0 < p
    pub carries : RecordCarries p G H G' H' B B'

  pub record OrderSame (v w : OrderAnswer) : Type 0 where
    pub number : v.refusal ≡ w.refusal
    pub basis : v.refusal ≡ 0 → Counterpart v.basis w.basis

  pub record StepSame (v w : StepAnswer) : Type 0 where
    pub number : v.refusal ≡ w.refusal
    pub degree : v.degree ≡ w.degree
    pub basis : v.refusal ≡ 0 → Counterpart v.basis w.basis

  pub record WalkSame (v w : WalkAnswer) : Type 0 where
    pub number : v.refusal ≡ w.refusal
    pub steps : v.steps ≡ w.steps
    pub sum : v.sum ≡ w.sum
    pub basis : (v.refusal ≡ 0) ⊎ (v.refusal ≡ 10) → Counterpart v.basis w.basis

  pub record MadeSame (v w : UnitAnswer) (r r' : List ℕ) : Type 0 where
    pub number : v.refusal ≡ w.refusal
    pub period : v.period.0 ≡ w.period.0
    pub regulator : v.regulator.0 ≡ w.regulator.0
    pub rows : v.refusal ≡ 0 → (c : ℕ) × (length r ≡ 6 * c) × (length r' ≡ 6 * c) × RowsCarry p G H G' H' c r r'

  pub record AlikeFor : Type 0 where
    pub refused : (n : ℕ) → Refusal p G H n → Refusal p G' H' n
    -- "Prove that such pairs have the same period and regulator"
    pub told : (n : ℕ) (v w : PeriodAnswer) → FromOrder p G H n v → FromOrder p G' H' n w → v ≡ w
    -- "and say how the rows of the unit carry over: E1 and E2 change places on a swap and take constant factors, E0 stays"
    pub made : (i n : ℕ) (x y x' y' : List ℕ) → length x ≡ length x' → length y ≡ length y' → (v w : UnitAnswer) (r r' s s' : List ℕ)
        → Makes i p G H n x y v r s → Makes i p G' H' n x' y' w r' s' → MadeSame v w r r'
    -- the records of the two chains carry over too, from the order on
    pub order : (v w : OrderAnswer) → Orders p G H v → Orders p G' H' w → OrderSame v w
    pub step : {B B' : List ℕ} → Counterpart B B' → (v w : StepAnswer) → Answers p G H B v → Answers p G' H' B' w → StepSame v w
    pub walk : {B B' : List ℕ} → Counterpart B B' → (n : ℕ) (v w : WalkAnswer) → Walks p G H n B v → Walks p G' H' n B' w → WalkSame v w
    -- `transfer` makes of the unit's rows the rows of the other pair's unit, those that `unit` gives for it, under each convention
    pub holds : {k : Convention} {l d c : ℕ} {r r₁ : List ℕ} → Holds k p G H l d c r → Transfers p G H G' H' r 0 r₁ → Holds k p G' H' l d c r₁
    pub transferred : (i n : ℕ) (x y x' y' : List ℕ) → length x ≡ length x' → length y ≡ length y' → (v w : UnitAnswer) (r r' s s' : List ℕ)
        → Makes i p G H n x y v r s → Makes i p G' H' n x' y' w r' s' → v.refusal ≡ 0
        → (k : ℕ) (r₁ : List ℕ) → Transfers p G H G' H' r k r₁ → (k ≡ 0) × (r₁ ≡ r')

-- "Two pairs over the same p are of one field when they agree after both are made monic, in either order"
abbrev pub Alike : Type 0
Alike = (p : ℕ) (G H G' H' : List ℕ) → Coefficients p G H → Coefficients p G' H' → OneField p G H G' H' → AlikeFor p G H G' H'
