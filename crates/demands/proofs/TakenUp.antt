-- Walks taken up again are one chain: by induction over them, with no bound on their budgets.
--   together          what they come to
--   together_agrees   from the order: the period and twice the regulator that `from_order` answers; `closes_agrees`, of any closing
use mathlib.Core.Path.{◌≡◌, subst}
use mathlib.Core.Logic.{◌⊎◌, inl, inr}
use mathlib.Core.List.{List}
use Prim.Native.Nat.{ℕ, ◌+◌}
use Rattle.basis_record.specs.Record.{IsRecord}
use Rattle.basis_field.specs.First.{IsFirst}
use Rattle.basis_field.proofs.First.{first_unique}
use Rattle.walk_chain.specs.Walk.{WalkAnswer, Reaches, StaysOpen, Closes}
use Rattle.walk_chain.proofs.Walk.{closes_unique}
use Rattle.walk_chain.proofs.TakenUp.{reaches_then, stays_then, closes_then}
use Rattle.door_period.specs.Order.{PeriodAnswer, FromOrder}
use Rattle.demands.specs.TakenUp.{TakenUp, once, again, Together}
use Rattle.demands.proofs.Cases.{walk_closed, walk_reaches, walk_stays, told_accepted, told_closed}
use Rattle.demands.proofs.Tabled.{walk_tabled}

module _ (p : ℕ) (G H B : List ℕ) where
  -- while the last answer is 10
  pub record Going (s d : ℕ) (B' : List ℕ) : Type 0 where
    pub is_a_record : IsRecord p G H B
    pub reaches : Reaches p G H B s d B'
    pub none : StaysOpen p G H B s

  going : {s d : ℕ} {w : WalkAnswer} → TakenUp p G H B s d w → w.refusal ≡ 10 → Going s d w.basis
  going (once n w h) z = record {
    is_a_record = ((walk_tabled p G H n B w h).no_closing.0 z).2;
    reaches = walk_reaches p n G H B w h (inr z);
    none = walk_stays p n G H B w h z;
  }
  going (again {v = v} n w t y h) z =
      let g = going t y in
      let r = walk_reaches p n G H v.basis w h (inr z) in
      record {
        is_a_record = g.is_a_record;
        reaches = reaches_then g.reaches r;
        none = stays_then g.reaches g.is_a_record g.none r (walk_stays p n G H v.basis w h z);
      }

  closing : {s d : ℕ} {w : WalkAnswer} → TakenUp p G H B s d w → w.refusal ≡ 0 → Closes p G H B s d w.basis
  closing (once n w h) z = (walk_closed p n G H B w h z).closes
  closing (again {v = v} n w t y h) z =
      let g = going t y in
      closes_then g.reaches g.is_a_record g.none (walk_closed p n G H v.basis w h z).closes

  pub together : {s d : ℕ} {w : WalkAnswer} → TakenUp p G H B s d w → Together p G H B s d w
  together {s} {d} {w} t = record { reaches = reached; none = λ z. (going t z).none; closes = closing t }
    where
      reached : (w.refusal ≡ 0) ⊎ (w.refusal ≡ 10) → Reaches p G H B s d w.basis
      reached (inl z) = let k = closing t z in record { is_a_record = k.is_a_record; chain = λ A. (k.closing A).chain }
      reached (inr z) = (going t z).reaches

  pub closes_agrees :
      {n s d : ℕ} {B' : List ℕ} (o : PeriodAnswer) →
      IsFirst p G H B →
      Closes p G H B s d B' →
      FromOrder p G H n o → o.refusal ≡ 0 →
      (o.period.0 ≡ s) × (o.regulator.0 + o.regulator.0 ≡ d)
  closes_agrees {n} o first c h u =
      let A = told_accepted p n G H o h u in
      let (B', first', k) = told_closed p n G H o h u in
      let e = first_unique A B' B first' first in
      let same = subst (λ b. Closes p G H b o.period.0 (o.regulator.0 + o.regulator.0) k.last) e k.closes in
      let (x, y, q) = closes_unique p G H A B first.is_a_record same c in
      (x, y)

  pub together_agrees :
      {n s d : ℕ} {w : WalkAnswer} (o : PeriodAnswer) →
      IsFirst p G H B →
      TakenUp p G H B s d w → w.refusal ≡ 0 →
      FromOrder p G H n o → o.refusal ≡ 0 →
      (o.period.0 ≡ s) × (o.regulator.0 + o.regulator.0 ≡ d)
  together_agrees o first t z h u = closes_agrees o first (closing t z) h u
