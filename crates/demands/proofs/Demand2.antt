-- Demand 2 holds: each clause is what its contract's case says.
use mathlib.Core.Path.{◌≡◌, sym, ap, ◌∙◌, subst}
use mathlib.Core.List.{List}
use Prim.Native.Nat.{ℕ, ◌+◌}
use native.Mathlib.Omega.{arith}
use Rattle.field_open.specs.Refusal.{Accepted}
use Rattle.field_open.proofs.Door.{door_out}
use Rattle.math_ideals.specs.Setting.{Setting}
use Rattle.math_ideals.specs.Ideal.{Basis}
use Rattle.math_ideals.specs.Next.{Start}
use Rattle.math_chain.specs.Chain.{Chain, Closing}
use Rattle.math_chain.specs.Convention.{Convention, number}
use Rattle.math_chain.proofs.Walk.{chain_good, open_none}
use Rattle.math_chain.proofs.Closing.{closing_start}
use Rattle.math_chain.proofs.Exists.{order_exists}
use Rattle.math_chain.proofs.Unit.{unit_degree}
use Rattle.basis_record.specs.Record.{setting, basis_of}
use Rattle.basis_record.proofs.Unique.{record_unique}
use Rattle.door_order.proofs.Answer.{orders_first}
use Rattle.step_next.specs.Steps.{Steps}
use Rattle.door_step.specs.Answer.{StepAnswer}
use Rattle.door_step.specs.Answer as stepped
use Rattle.walk_chain.specs.Walk.{Closes}
use Rattle.basis_field.specs.First.{IsFirst}
use Rattle.door_period.specs.Order.{PeriodAnswer, FromOrder}
use Rattle.door_unit.specs.Unit.{UnitAnswer, Makes}
use Rattle.book_check.proofs.Value.{book_back, book_obeys}
use Rattle.book_check.proofs.Written.{writing_accepted, written_count, reads_back, one_value}
use Rattle.demands.specs.Meaning.{BackFirst, UnitRows, Demand2}
use Rattle.demands.proofs.Cases.{walk_closed, walk_reaches, told_closed, unit_made, success_unit}
use Rattle.demands.proofs.Tabled.{order_tabled, series_tabled, check_tabled, step_tabled, walk_tabled, period_tabled, unit_tabled, order_closing}
use Rattle.demands.proofs.TakenUp.{together, together_agrees}

-- ---- the step
module _ (p : ℕ) (G H B : List ℕ) (s : StepAnswer) (z : s.refusal ≡ 0) where
  abbrev Stepping : Type 0
  Stepping = Steps p G H B (record { degree = s.degree; basis = s.basis })

  step_goes : stepped.Goes p G H B s → Stepping
  step_goes (stepped.no_record f e) = let n = ap (λ (x : StepAnswer). x.refusal) e in absurd (omega arith)
  step_goes (stepped.taken r n t) = t

  pub step_taken : stepped.Answers p G H B s → Stepping
  step_taken = door_out (λ k f l e. let n = ap (λ (x : StepAnswer). x.refusal) e in absurd (f (sym n ∙ z))) (λ A. step_goes)

-- ---- period and regulator
-- closing is being back at the whole order, for the first time
back_first : (S : Setting) (B₀ : Basis S) → Start S B₀ → (l d : ℕ) (B : Basis S) → Closing S B₀ l d B → BackFirst S B₀ l d
back_first S B₀ st l d B c = record {
  some = c.some;
  back = subst (Chain S B₀ l d) (sym (closing_start S B₀ B st (chain_good S B₀ st.good c.chain) c.closed)) c.chain;
  first = λ m e B' lo hi ch s. c.none m e B' lo hi ch s.U_one;
}

pub closes_first :
    {p l d : ℕ} {G H B B' : List ℕ} →
    IsFirst p G H B → Closes p G H B l d B' →
    (A : Accepted p G H) → BackFirst (setting A) (basis_of A B) l d
closes_first {B = B} {B'} f c A = back_first (setting A) (basis_of A B) (f.start A) _ _ (basis_of A B') (c.closing A)

period_back :
    (p n : ℕ) (G H : List ℕ) (o : PeriodAnswer) → FromOrder p G H n o → o.refusal ≡ 0 →
    (A : Accepted p G H) (B₀ : Basis (setting A)) → Start (setting A) B₀ →
    BackFirst (setting A) B₀ o.period.0 (o.regulator.0 + o.regulator.0)
period_back p n G H o h z A B₀ st =
    let (B, f, c) = told_closed p n G H o h z in
    back_first (setting A) B₀ st _ _ (basis_of A c.last) (order_closing p G H f A B₀ st c.closes)

-- ---- the unit
pub unit_is :
    (i p n : ℕ) (G H rows scratch rows' scratch' : List ℕ) (m : UnitAnswer) →
    Makes i p G H n rows scratch m rows' scratch' → m.refusal ≡ 0 →
    (k : Convention) × (number k ≡ i) × UnitRows k p G H m rows'
unit_is i p n G H rows scratch rows' scratch' m h z =
    let (k, c, l, d, e, r) = unit_made i p n G H rows scratch rows' scratch' m h z in (
      k,
      e.named,
      record {
        c = c;
        long = r.rows_hold.whole;
        unit = success_unit p G H rows' m r;
        period = λ A B₀ st. let u = success_unit p G H rows' m r A B₀ st in back_first (setting A) B₀ st _ _ u.B u.closing;
        degree = λ A. let (B₀, st) = order_exists (setting A) in (unit_degree (setting A) B₀ st (success_unit p G H rows' m r A B₀ st)).0;
      },
    )

pub demand_2 : Demand2
demand_2 = record {
  one_basis = λ A B B' h h' s. record_unique A B B' h h' s;
  order_basis = λ o h z. (orders_first h z).1;
  step_basis = λ s h z. let t = step_taken _ _ _ _ s z h in (t.is_a_record, λ A. (t.next A, t.degree A));
  walk_basis = λ w h z. walk_reaches _ _ _ _ _ w h z;
  walk_closing = λ w h z. (walk_closed _ _ _ _ _ w h z).closes;
  walk_period = λ w f h z. closes_first f (walk_closed _ _ _ _ _ w h z).closes;
  period = λ o h z A B₀ st. period_back _ _ _ _ o h z A B₀ st;
  unit = λ m h z. unit_is _ _ _ _ _ _ _ _ _ m h z;
  taken_up = λ t. together _ _ _ _ t;
  taken_up_period = λ f t z. closes_first f ((together _ _ _ _ t).closes z);
  taken_up_agrees = λ o f t z h y. together_agrees _ _ _ _ o f t z h y;
  order_tabled = λ o h. order_tabled _ _ _ o h;
  series_tabled = λ h. series_tabled _ _ _ _ _ _ _ _ h;
  check_tabled = check_tabled;
  step_tabled = λ s h. step_tabled _ _ _ _ s h;
  walk_tabled = λ w h. walk_tabled _ _ _ _ _ w h;
  period_tabled = λ o h. period_tabled _ _ _ _ o h;
  unit_tabled = λ m h. unit_tabled _ _ _ _ _ _ _ m _ _ h;
  walk_zero = λ {p} {G} {H} {B} w A r h.
      (walk_tabled p G H 0 B w h).no_closing.1 (A, omega arith, r, open_none (setting A) (basis_of A B));
  period_zero = λ {p} {G} {H} o A h.
      let (B₀, st) = order_exists (setting A) in
      (period_tabled p G H 0 o h).no_closing.1 (A, omega arith, B₀, st, open_none (setting A) B₀);
  unit_zero = λ {k} {i} {p} {c} {G} {H} {rows} {scratch} {rows'} {scratch'} m A b h.
      let (B₀, st) = order_exists (setting A) in
      (unit_tabled p G H i 0 rows scratch m rows' scratch' h).no_closing.1 (A, k, c, b, B₀, st, open_none (setting A) B₀);
  written_accepted = λ bs o. writing_accepted bs o;
  reads_back = λ bs o. (written_count bs o, reads_back bs o);
  accepted_written = λ s b a. (book_obeys s b a, book_back s b a);
  one_writing = one_value;
}
