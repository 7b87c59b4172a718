-- Records of two pairs of one field, step by step: what a function answers for the one, its record carried over, is an answer for the
-- other, and there is one.
--   order_same   the records of the order
--   step_same    one step
--   walk_same    a walk, closed or not
use mathlib.Core.Path.{◌≡◌, refl, sym, ap, ◌∙◌, subst}
use mathlib.Core.Logic.{◌≢◌, inl, inr}
use mathlib.Core.List.{List}
use Prim.Native.Nat.{ℕ}
use native.Mathlib.Omega.{arith}
use Rattle.field_open.specs.Refusal.{Accepted}
use Rattle.field_open.proofs.Stages.{numbered}
use Rattle.field_open.proofs.Door.{door_refused, door_goes}
use Rattle.basis_record.specs.Record.{IsRecord}
use Rattle.door_order.specs.Answer.{OrderAnswer, Orders}
use Rattle.door_order.proofs.Answer.{orders_unique}
use Rattle.door_step.specs.Answer.{StepAnswer}
use Rattle.door_step.specs.Answer as stepped
use Rattle.door_step.proofs.Answers.{answers_unique}
use Rattle.walk_chain.specs.Walk.{WalkAnswer}
use Rattle.walk_chain.specs.Walk as walk
use Rattle.walk_chain.proofs.Walk.{walks_unique}
use Rattle.pair_laws.specs.OneField.{OneField}
use Rattle.pair_agree.specs.Answer.{Coefficients}
use Rattle.pair_answers.specs.Alike.{Counterpart, OrderSame, StepSame, WalkSame}
use Rattle.pair_answers.proofs.Way.{Way, way, one_of, split}
use Rattle.pair_answers.proofs.Record.{record_way, record_in, record_below, Over, over, record_over, record_back}
use Rattle.pair_answers.proofs.Chains.{first_over, steps_over, reaches_over, closes_over, open_over}

-- ---- the order
module _ (p : ℕ) {G H G' H' : List ℕ} where
  counterpart : (w : Way p G H G' H') {B B' : List ℕ} → IsRecord p G H B → Over w B B' → Counterpart p G H G' H' B B'
  counterpart w r o = record { size = r.size; size' = o.size; below = r.each; carries = record_in w o.rows }

  pub order_same : Coefficients p G H → Coefficients p G' H' → OneField p G H G' H' → (v w : OrderAnswer)
      → Orders p G H v → Orders p G' H' w → OrderSame p G H G' H' v w
  order_same s s' one v w a b = let (u, k, h) = order_over in subst (OrderSame p G H G' H' v) (orders_unique u w k b) h
    where
      order_over : (u : OrderAnswer) × Orders p G' H' u × OrderSame p G H G' H' v u
      order_over = split p s s' one a.no a.first
          (λ n r. (v, door_refused r n (a.none n), record { number = refl; basis = λ z. absurd (n (sym (ap (λ o. o.refusal) (a.none n)) ∙ z)) }))
          (λ z A A' r.
          let q = way A A' one in
          let (e, f) = a.goes z in
          let (B', o) = over v.basis f.is_a_record.each q in (
            record { refusal = v.refusal; basis = B' },
            door_goes r z (e, first_over A q o f),
            record { number = refl; basis = λ _. counterpart q f.is_a_record o },
          ))

-- ---- from counterparts
module _ (p : ℕ) {G H G' H' : List ℕ} (s : Coefficients p G H) (s' : Coefficients p G' H') {B B' : List ℕ} (c : Counterpart p G H G' H' B B') where
  -- the way that the counterparts tell
  q : Way p G H G' H'
  q = (record_way c.carries).0

  o : Over q B B'
  unfolding q
  o = record_below B c.below q B' c.size' (record_way c.carries).1

  step_refused : {n : ℕ} (v : StepAnswer) → n ≢ 0 → v ≡ stepped.refused n → StepSame p G H G' H' v v
  step_refused v f e = record { number = refl; degree = refl; basis = λ z. absurd (f (sym (ap (λ t. t.refusal) e) ∙ z)) }

  step_goes : Accepted p G H → Accepted p G' H' → (v : StepAnswer) → stepped.Goes p G H B v
      → (u : StepAnswer) × stepped.Goes p G' H' B' u × StepSame p G H G' H' v u
  step_goes A A' v (stepped.no_record f e) = (v, stepped.no_record (λ r. f (record_back A' q c.size c.below o r)) e, step_refused v (λ z. omega arith) e)
  step_goes A A' v (stepped.taken r z t) =
      let (E', u) = over v.basis t.is_a_record.each q in (
        record { refusal = v.refusal; degree = v.degree; basis = E' },
        stepped.taken (record_over A q o r) z (steps_over A q o u t),
        record { number = refl; degree = refl; basis = λ _. counterpart p q t.is_a_record u },
      )

  pub step_same : (v w : StepAnswer) → stepped.Answers p G H B v → stepped.Answers p G' H' B' w → StepSame p G H G' H' v w
  step_same v w a b = let (u, k, h) = step_over in subst (StepSame p G H G' H' v) (answers_unique u w k b) h
    where
      step_over : (u : StepAnswer) × stepped.Answers p G' H' B' u × StepSame p G H G' H' v u
      step_over = split p s s' (one_of q) a.no a.first
          (λ n r. (v, door_refused r n (a.none n), step_refused v n (a.none n)))
          (λ z A A' r. let (u, g, h) = step_goes A A' v (a.goes z) in (u, door_goes r z g, h))

  walk_refused : {m : ℕ} (v : WalkAnswer) → m ≢ 0 → m ≢ 10 → v ≡ walk.refused m → WalkSame p G H G' H' v v
  walk_refused v f g e = record {
    number = refl;
    steps = refl;
    sum = refl;
    basis = λ z. let k = ap (λ t. t.refusal) e in elim z [ inl a ↦ absurd (f (sym k ∙ a)) | inr a ↦ absurd (g (sym k ∙ a)) ];
  }

  walk_goes : Accepted p G H → Accepted p G' H' → (n : ℕ) (v : WalkAnswer) → walk.Goes p G H n B v
      → (u : WalkAnswer) × walk.Goes p G' H' n B' u × WalkSame p G H G' H' v u
  walk_goes A A' n v (walk.budget l e) = (v, walk.budget l e, walk_refused v (λ z. omega arith) (λ z. omega arith) e)
  walk_goes A A' n v (walk.no_record l f e) =
      (v, walk.no_record l (λ r. f (record_back A' q c.size c.below o r)) e, walk_refused v (λ z. omega arith) (λ z. omega arith) e)
  walk_goes A A' n v (walk.closed l r k) =
      let (E', u) = over v.basis k.closes.is_a_record.each q in (
        record { refusal = v.refusal; steps = v.steps; sum = v.sum; basis = E' },
        walk.closed l (record_over A q o r) (record { within = k.within; number = k.number; closes = closes_over A q o u k.closes }),
        record { number = refl; steps = refl; sum = refl; basis = λ _. counterpart p q k.closes.is_a_record u },
      )
  walk_goes A A' n v (walk.spent l r k) =
      let (E', u) = over v.basis k.reaches.is_a_record.each q in (
        record { refusal = v.refusal; steps = v.steps; sum = v.sum; basis = E' },
        walk.spent l (record_over A q o r) (record { number = k.number; all = k.all; none = open_over A q o k.none; reaches = reaches_over A q o u k.reaches }),
        record { number = refl; steps = refl; sum = refl; basis = λ _. counterpart p q k.reaches.is_a_record u },
      )

  pub walk_same : (n : ℕ) (v w : WalkAnswer) → walk.Walks p G H n B v → walk.Walks p G' H' n B' w → WalkSame p G H G' H' v w
  walk_same n v w a b = let (u, k, h) = walk_over in subst (WalkSame p G H G' H' v) (walks_unique p G' H' n B' u w k b) h
    where
      walk_over : (u : WalkAnswer) × walk.Walks p G' H' n B' u × WalkSame p G H G' H' v u
      walk_over = split p s s' (one_of q) a.no a.first
          (λ f r. (v, door_refused r f (a.none f), walk_refused v f (λ e. omega (arith, numbered p G H a.no a.first)) (a.none f)))
          (λ z A A' r. let (u, g, h) = walk_goes A A' n v (a.goes z) in (u, door_goes r z g, h))
