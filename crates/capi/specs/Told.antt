-- What the functions of the C interface tell: the one answer that the contract of the function behind each allows, in numbers and lent
-- arrays.
--   Left n a b x         what is lent: without a refusal it holds x afterwards, with one it is as it was
--   OrderTells           the record of the order, into a lent array
--   StepTells            the next record in place of the old one, and the degree of the m divided by
--   WalkTells            the last record in place of the first one, steps and degree sum
--   FromOrderTells       period and regulator of the walk from the order
--   UnitTells            the unit under the convention with the number i and its inverse in the lent slices, period and regulator
--   OneFieldTells        whether two pairs are of one field, as 1 or 0
-- In proofs/Once.antt: two outcomes that meet one of them are equal. `Puts`, what a walk puts in place, is in capi_walk/specs/Puts.antt.
use Rattle.std.specs.Prelude.{◌≡◌, ◌≢◌, Bool, true, false, List, ℕ}
use Rattle.door_order.specs.Answer.{OrderAnswer}
use Rattle.door_order.specs.Answer.{Orders}
use Rattle.door_step.specs.Answer.{StepAnswer}
use Rattle.door_step.specs.Answer.{Answers}
use Rattle.walk_chain.specs.Walk.{WalkAnswer}
use Rattle.walk_chain.specs.Walk.{Walks}
use Rattle.capi_walk.specs.Puts.{Puts}
use Rattle.door_period.specs.Order.{PeriodAnswer}
use Rattle.door_period.specs.Order.{FromOrder}
use Rattle.door_unit.specs.Unit.{UnitAnswer}
use Rattle.door_unit.specs.Unit.{Makes}
use Rattle.door_compare.specs.Answer.{CompareAnswer}
use Rattle.door_compare.specs.Answer.{Compares}

pub record Left (n : ℕ) (before after x : List ℕ) : Type 0 where
  pub stored : n ≡ 0 → after ≡ x
  pub kept : n ≢ 0 → after ≡ before

pub record OrderTells (p : ℕ) (G H before : List ℕ) (n : ℕ) (after : List ℕ) : Type 0 where
  pub o : OrderAnswer
  pub orders : Orders p G H o
  pub number : n ≡ o.refusal
  pub rows : Left n before after o.basis

pub record StepTells (p : ℕ) (G H before : List ℕ) (n degree : ℕ) (after : List ℕ) : Type 0 where
  pub s : StepAnswer
  pub answers : Answers p G H before s
  pub number : n ≡ s.refusal
  pub degree_is : degree ≡ s.degree
  pub rows : Left n before after s.basis

pub record WalkTells (p : ℕ) (G H : List ℕ) (budget : ℕ) (before : List ℕ) (n steps sum : ℕ) (after : List ℕ) : Type 0 where
  pub o : WalkAnswer
  pub walks : Walks p G H budget before o
  pub puts : Puts o.refusal o.steps o.sum o.basis before n steps sum after

pub record FromOrderTells (p : ℕ) (G H : List ℕ) (budget n period regulator : ℕ) : Type 0 where
  pub o : PeriodAnswer
  pub from : FromOrder p G H budget o
  pub number : n ≡ o.refusal
  pub period_is : period ≡ o.period.0
  pub regulator_is : regulator ≡ o.regulator.0

pub record UnitTells (i p : ℕ) (G H : List ℕ) (budget : ℕ) (rows scratch : List ℕ) (n period regulator : ℕ) (rows' scratch' : List ℕ) : Type 0 where
  pub m : UnitAnswer
  pub makes : Makes i p G H budget rows scratch m rows' scratch'
  pub number : n ≡ m.refusal
  pub period_is : period ≡ m.period.0
  pub regulator_is : regulator ≡ m.regulator.0

abbrev pub as_number : Bool → ℕ
as_number true = 1
as_number false = 0

pub record OneFieldTells (p : ℕ) (G H G' H' : List ℕ) (n same : ℕ) : Type 0 where
  pub a : CompareAnswer
  pub compares : Compares p G H G' H' a
  pub number : n ≡ a.refusal
  pub same_is : same ≡ as_number a.same
