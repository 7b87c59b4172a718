-- The walk from the order: what its answers mean, and that there is one.
use mathlib.Core.Path.{◌≡◌, refl, sym, ap, ◌∙◌, subst}
use mathlib.Core.Logic.{◌≢◌, ◌⊎◌, inl, inr}
use mathlib.Core.List.{List}
use Prim.Native.Nat.{ℕ, ◌+◌, ◌/◌, ◌≤◌}
use native.Mathlib.Omega.{arith}
use Rattle.std.specs.declared.result.Result.{Result}
use Rattle.std.specs.declared.result.Result.TheVariants.{Ok, Err}
use Rattle.base_answers.specs.Limits.{most}
use Rattle.base_answers.specs.declared.Fault.{Fault}
use Rattle.base_answers.proofs.Faults.{some_number, number_one}
use Rattle.field_open.specs.Refusal.{Accepted}
use Rattle.field_open.proofs.Door.{door_goes, door_unique}
use Rattle.field_series.specs.Answer.{Expands, OpenedAnswer}
use Rattle.field_series.proofs.Answer.{expands_number}
use Rattle.basis_field.specs.First.{IsFirst, First}
use Rattle.basis_field.proofs.First.{first_unique}
use Rattle.basis_field.proofs.Known.{prime_of, kept_of}
use Rattle.walk_chain.specs.Walk.{WalkAnswer, Closes, StaysOpen, Closed, Spent}
use Rattle.walk_chain.specs.InField.{WalkInFieldAsks, WalkInFieldGives}
use Rattle.walk_chain.proofs.Walk.{closes_unique, not_both}
use Rattle.walk_chain.proofs.Even.{sum_even}
use Rattle.base_answers.specs.declared.Cycle.{Cycle}
use Rattle.door_period.specs.Order.{PeriodAnswer, refusal, told, Periodic, Goes, budget, closed, spent, FromOrder}

told_eq : (v w : PeriodAnswer) → v.refusal ≡ w.refusal → v.period.0 ≡ w.period.0 → v.regulator.0 ≡ w.regulator.0 → v ≡ w
told_eq v w a b c = λ i. record { refusal = a i; period = record { 0 = b i }; regulator = record { 0 = c i } }

module _ (p : ℕ) (G H : List ℕ) (A : Accepted p G H) (n : ℕ) where
  -- what the walk answers, of the answer that is handed out
  module _ {B : List ℕ} (f : IsFirst p G H B) (l : n ≤ most) (o : WalkAnswer) where
    pub goes_closed : Closed p G H n B o ⊎ Spent p G H n B o → o.refusal ≡ 0
        → Goes p G H n (record { refusal = 0; period = record { 0 = o.steps }; regulator = record { 0 = o.sum / 2 } })
    goes_closed (inl k) z = closed l B f (record {
      last = o.basis;
      number = refl;
      within = k.within;
      closes = subst (λ d. Closes p G H B o.steps d o.basis) (sym (sum_even A B f k.closes)) k.closes;
    })
    goes_closed (inr k) z = absurd (let e : o.refusal ≡ 10 = k.number in omega arith)

    pub goes_spent : Closed p G H n B o ⊎ Spent p G H n B o → o.refusal ≢ 0 → Goes p G H n (refusal 10)
    goes_spent (inl k) z = absurd (z k.number)
    goes_spent (inr k) z = spent l B f k.none refl

  half : (a b : ℕ) → a + a ≡ b + b → a ≡ b
  half a b e = omega arith

  goes_unique : (v w : PeriodAnswer) → Goes p G H n v → Goes p G H n w → v ≡ w
  goes_unique v w (budget l e) (budget m f) = e ∙ sym f
  goes_unique v w (budget l e) (closed m B f k) = absurd (omega arith)
  goes_unique v w (budget l e) (spent m B f o k) = absurd (omega arith)
  goes_unique v w (closed l B f k) (budget m e) = absurd (omega arith)
  goes_unique v w (closed l B f k) (closed m B' f' k') =
      let e : B' ≡ B = first_unique A B' B f' f in
      let (x, y, z) = closes_unique p G H A B f.is_a_record k.closes (subst (λ b. Closes p G H b w.period.0 (w.regulator.0 + w.regulator.0) k'.last) e k'.closes) in
      told_eq v w (k.number ∙ sym k'.number) x (half v.regulator.0 w.regulator.0 y)
  goes_unique v w (closed l B f k) (spent m B' f' o k') =
      absurd (not_both p G H A B f.is_a_record k.within k.closes (subst (λ b. StaysOpen p G H b n) (first_unique A B' B f' f) o))
  goes_unique v w (spent l B f o k) (budget m e) = absurd (omega arith)
  goes_unique v w (spent l B f o k) (closed m B' f' k') =
      absurd (not_both p G H A B' f'.is_a_record k'.within k'.closes (subst (λ b. StaysOpen p G H b n) (first_unique A B B' f f') o))
  goes_unique v w (spent l B f o k) (spent m B' f' o' k') = k ∙ sym k'

-- two answers to one walk from the order are equal
pub from_order_unique : (p : ℕ) (G H : List ℕ) (n : ℕ) (v w : PeriodAnswer) → FromOrder p G H n v → FromOrder p G H n w → v ≡ w
from_order_unique p G H n v w = door_unique (λ k e f. e ∙ sym f) (λ A. goes_unique p G H A n v w)

-- two results that tell one answer are equal
pub told_one : (r s : Result Cycle Fault) → told r ≡ told s → r ≡ s
told_one (Ok x) (Ok y) e = λ i. Ok (record { period = (e i).period; regulator = (e i).regulator })
told_one (Ok x) (Err k) e = absurd (some_number k (sym (ap (λ (o : PeriodAnswer). o.refusal) e)))
told_one (Err j) (Ok y) e = absurd (some_number j (ap (λ (o : PeriodAnswer). o.refusal) e))
told_one (Err j) (Err k) e = ap Err (number_one j k (ap (λ (o : PeriodAnswer). o.refusal) e))

-- what `from_order` answers in an opened field
module _ (p : ℕ) (G H : List ℕ) (n : ℕ) (e : OpenedAnswer) (opens : Expands p G H e) (z : e.refusal ≡ 0)
    (b : List ℕ) (first : First e.cubic b) (l : n ≤ most) where
  first_at : IsFirst e.cubic.field.p G H b
  first_at = first G H (kept_of opens z)

  pub walked_at : WalkInFieldAsks e.cubic b n
  walked_at = record { G = G; H = H; keeps = kept_of opens z; is_a_record = first_at.is_a_record; within = l }

  module _ (w : WalkAnswer) (out : WalkInFieldGives e.cubic b n w) where
    -- what holds of the struct's own p, which is p
    goes : (t : PeriodAnswer) → Goes e.cubic.field.p G H n t → FromOrder p G H n t
    goes t g = door_goes (expands_number opens) z (subst (λ q. Goes q G H n t) (prime_of opens z) g)

    ended : Closed e.cubic.field.p G H n b w ⊎ Spent e.cubic.field.p G H n b w
    ended = out G H (kept_of opens z) first_at.is_a_record

    pub from_spent : w.refusal ≢ 0 → (o : PeriodAnswer) → o ≡ refusal 10 → FromOrder p G H n o
    from_spent f o q = subst (FromOrder p G H n) (sym q) (goes (refusal 10) (goes_spent e.cubic.field.p G H (kept_of opens z).accepted n first_at l w ended f))

    pub from_closed : w.refusal ≡ 0 → FromOrder p G H n (record { refusal = 0; period = record { 0 = w.steps }; regulator = record { 0 = w.sum / 2 } })
    from_closed f = goes _ (goes_closed e.cubic.field.p G H (kept_of opens z).accepted n first_at l w ended f)
