-- The walk from the order tells the same of two pairs of one field: what it answers for the one is an answer for the other, and there is
-- one.
--   told_same   the same refusal, period and regulator, whatever the budget
use mathlib.Core.Path.{◌≡◌}
use mathlib.Core.List.{List}
use Prim.Native.Nat.{ℕ}
use Rattle.field_open.specs.Refusal.{Accepted}
use Rattle.door_period.specs.Order.{PeriodAnswer, Goes, budget, closed, spent, FromOrder}
use Rattle.door_period.proofs.Order.{from_order_unique}
use Rattle.pair_laws.specs.OneField.{OneField}
use Rattle.pair_agree.specs.Answer.{Coefficients}
use Rattle.pair_answers.proofs.Way.{Way, way, split}
use Rattle.pair_answers.proofs.Record.{over}
use Rattle.pair_answers.proofs.Chains.{first_over, open_over, closes_over}

module _ {p : ℕ} {G H G' H' : List ℕ} {n : ℕ} {v : PeriodAnswer} where
  goes_over : Accepted p G H → Way p G H G' H' → Goes p G H n v → Goes p G' H' n v
  goes_over A w (budget l e) = budget l e
  goes_over A w (closed l B f k) =
      let (B', o) = over B f.is_a_record.each w in
      let (E', u) = over k.last k.closes.is_a_record.each w in
      closed l B' (first_over A w o f) (record { last = E'; number = k.number; within = k.within; closes = closes_over A w o u k.closes })
  goes_over A w (spent l B f h e) =
      let (B', o) = over B f.is_a_record.each w in
      spent l B' (first_over A w o f) (open_over A w o h) e

module _ (p : ℕ) {G H G' H' : List ℕ} (s : Coefficients p G H) (s' : Coefficients p G' H') (one : OneField p G H G' H') where
  from_order_over : (n : ℕ) (v : PeriodAnswer) → FromOrder p G H n v → FromOrder p G' H' n v
  from_order_over n v a = split p s s' one a.no a.first
      (λ f first. record { no = a.no; first = first; none = a.none; goes = λ z. absurd (f z) })
      (λ z A A' first. record { no = a.no; first = first; none = a.none; goes = λ _. goes_over A (way A A' one) (a.goes z) })

  pub told_same : (n : ℕ) (v w : PeriodAnswer) → FromOrder p G H n v → FromOrder p G' H' n w → v ≡ w
  told_same n v w a b = from_order_unique p G' H' n v w (from_order_over n v a) b
