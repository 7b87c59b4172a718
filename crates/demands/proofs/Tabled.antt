-- Refusals come exactly as tabled. Of each function: its table at a number from 1 to 8, and at each number that an accepted field brings.
--   order_tabled, series_tabled ..   an outcome that meets the function's contract has its number by the table
--   order_open order_closing         what holds from the order's record holds from its basis
use mathlib.Core.Path.{◌≡◌, refl, sym, ap, subst}
use mathlib.Core.Logic.{◌≢◌, inl, inr, ◌↔◌}
use mathlib.Core.List.{List}
use Prim.Native.Nat.{ℕ, ◌≤◌, ◌<◌}
use native.Mathlib.Omega.{arith}
use native.Mathlib.Decide.{ℕ_discrete}
use Rattle.base_answers.proofs.Limits.{six_unique}
use Rattle.base_answers.specs.Limits.{most}
use Rattle.math_valued.proofs.Degree.{has_unique}
use Rattle.field_open.specs.Refusal.{Refusal, Accepted}
use Rattle.field_open.specs.Door.{Door}
use Rattle.field_open.proofs.Stages.{refusal_unique, numbered}
use Rattle.field_open.proofs.Accept.{accepted, accepted_none}
use Rattle.field_series.specs.Answer as series
use Rattle.math_ideals.specs.Ideal.{Basis}
use Rattle.math_ideals.specs.Next.{Start}
use Rattle.math_chain.specs.Chain.{Closing, Open}
use Rattle.math_chain.specs.Convention.{Convention, e0_monic}
use Rattle.math_chain.proofs.Closing.{start_unique}
use Rattle.math_chain.proofs.Exists.{order_exists}
use Rattle.math_chain.proofs.Walk.{closing_unique}
use Rattle.math_chain.proofs.Unit.{unit_exists, unit_degree}
use Rattle.basis_record.specs.Record.{setting, basis_of, IsRecord}
use Rattle.basis_field.specs.First.{IsFirst}
use Rattle.door_order.specs.Answer.{OrderAnswer, Orders}
use Rattle.door_check.specs.Answer as checks
use Rattle.door_step.specs.Answer.{StepAnswer}
use Rattle.door_step.specs.Answer as stepped
use Rattle.walk_chain.specs.Walk.{WalkAnswer}
use Rattle.walk_chain.specs.Walk as walk
use Rattle.door_period.specs.Order.{PeriodAnswer}
use Rattle.door_period.specs.Order as walks
use Rattle.door_unit.specs.Unit.{UnitAnswer}
use Rattle.door_unit.specs.Unit as unit
use Rattle.door_unit.proofs.Once.{refused_number}
use Rattle.demands.specs.Tabled.{FieldTabled, OrderTabled, SeriesTabled, RecordTabled, WalkTabled, PeriodTabled, UnitWithin, UnitTabled}

pub both : {A B : Type 0} → A → B → A ↔ B
both a b = (λ x. b, λ y. a)

pub neither : {A B : Type 0} → (A → ⊥) → (B → ⊥) → A ↔ B
neither f g = (λ a. absurd (f a), λ b. absurd (g b))

module _ (p : ℕ) (G H : List ℕ) where
  -- ---- the field
  -- with a refusal from 1 to 8 it is not accepted
  pub never : (k : ℕ) → Refusal p G H k → 1 ≤ k → Accepted p G H → ⊥
  never k r lo A = let z : k ≡ 0 = refusal_unique p G H k 0 r (accepted_none p G H A) in omega arith

  pub field_refused : (x : ℕ) → Refusal p G H x → FieldTabled p G H x
  field_refused x r k lo hi = (λ e. subst (Refusal p G H) e r, λ q. refusal_unique p G H x k r q)

  pub field_passed : (x : ℕ) → Accepted p G H → ((k : ℕ) → 1 ≤ k → k ≤ 8 → x ≢ k) → FieldTabled p G H x
  field_passed x A f k lo hi = neither (f k lo hi) (λ r. never k r lo A)

  -- the table of an answer that comes through the field's door and carries the number x
  module _ (T : ℕ → Type 0) {R : ℕ → Type 0} {K : Type 0} {x : ℕ} (number : (k : ℕ) → R k → x ≡ k) where
    pub door_tabled : ((k : ℕ) → Refusal p G H k → 1 ≤ k → k ≤ 8 → T k) → (Accepted p G H → K → T x) → Door p G H R K → T x
    door_tabled out on d = go (ℕ_discrete d.no 0)
      where
        go : Dec (d.no ≡ 0) → T x
        go (yes z) = on (accepted p G H (subst (Refusal p G H) z d.first)) (d.goes z)
        go (no f) =
            let lo : 1 ≤ d.no = omega arith in
            subst T (sym (number d.no (d.none f))) (out d.no d.first lo (numbered p G H d.no d.first))

  -- ---- the order
  order_refused : (k : ℕ) → Refusal p G H k → 1 ≤ k → k ≤ 8 → OrderTabled p G H k
  order_refused k r lo hi = record { field = field_refused k r; passes = neither (λ e. omega arith) (never k r lo); only = hi }

  order_passed : Accepted p G H → OrderTabled p G H 0
  order_passed A = record { field = field_passed 0 A (λ k lo hi e. omega arith); passes = both refl A; only = omega arith }

  pub order_tabled : (o : OrderAnswer) → Orders p G H o → OrderTabled p G H o.refusal
  order_tabled o =
      door_tabled (OrderTabled p G H) (λ k. ap (λ a. a.refusal)) order_refused
      (λ A (z, f). subst (OrderTabled p G H) (sym z) (order_passed A))

  -- ---- the series
  module _ (r w : List ℕ) where
    abbrev AtSeries : ℕ → Type 0
    AtSeries = SeriesTabled p G H r w

    series_refused : (k : ℕ) → Refusal p G H k → 1 ≤ k → k ≤ 8 → AtSeries k
    series_refused k q lo hi = record {
      field = field_refused k q;
      out_of_rule = neither (λ e. omega arith) (λ c. never k q lo c.0);
      passes = neither (λ e. omega arith) (λ c. never k q lo c.0);
      only = inl hi;
    }

    series_out : Accepted p G H → (series.Fits r w → ⊥) → AtSeries 14
    series_out A f = record {
      field = field_passed 14 A (λ k lo hi e. omega arith);
      out_of_rule = both refl (A, f);
      passes = neither (λ e. omega arith) (λ c. f c.1);
      only = inr refl;
    }

    series_passed : Accepted p G H → series.Fits r w → AtSeries 0
    series_passed A f = record {
      field = field_passed 0 A (λ k lo hi e. omega arith);
      out_of_rule = neither (λ e. omega arith) (λ c. c.1 f);
      passes = both refl (A, f);
      only = inl (omega arith);
    }

    pub series_tabled : (x : ℕ) (r' w' : List ℕ) → series.Answer p G H r w r' w' x → AtSeries x
    series_tabled x r' w' = door_tabled AtSeries (λ k q. q.number) series_refused case
      where
        case : Accepted p G H → series.Goes p G H r w r' w' x → AtSeries x
        case A (series.unfit f q) = subst AtSeries (sym q.number) (series_out A f)
        case A (series.filled f e l s) = subst AtSeries (sym e) (series_passed A f)

  -- ---- a record
  module _ (B : List ℕ) where
    abbrev AtRecord : ℕ → Type 0
    AtRecord = RecordTabled p G H B

    record_refused : (k : ℕ) → Refusal p G H k → 1 ≤ k → k ≤ 8 → AtRecord k
    record_refused k r lo hi = record {
      field = field_refused k r;
      no_record = neither (λ e. omega arith) (λ c. never k r lo c.0);
      passes = neither (λ e. omega arith) (λ c. never k r lo c.0);
      only = omega arith;
    }

    record_none : Accepted p G H → (IsRecord p G H B → ⊥) → AtRecord 9
    record_none A f = record {
      field = field_passed 9 A (λ k lo hi e. omega arith);
      no_record = both refl (A, f);
      passes = neither (λ e. omega arith) (λ c. f c.1);
      only = omega arith;
    }

    record_passed : Accepted p G H → IsRecord p G H B → AtRecord 0
    record_passed A r = record {
      field = field_passed 0 A (λ k lo hi e. omega arith);
      no_record = neither (λ e. omega arith) (λ c. c.1 r);
      passes = both refl (A, r);
      only = omega arith;
    }

    pub check_tabled : (x : ℕ) → checks.Checks p G H B x → AtRecord x
    check_tabled x = door_tabled AtRecord (λ k e. e) record_refused case
      where
        case : Accepted p G H → checks.Goes p G H B x → AtRecord x
        case A (checks.no_record f e) = subst AtRecord (sym e) (record_none A f)
        case A (checks.is_a_record r e) = subst AtRecord (sym e) (record_passed A r)

    pub step_tabled : (s : StepAnswer) → stepped.Answers p G H B s → AtRecord s.refusal
    step_tabled s = door_tabled AtRecord (λ k. ap (λ a. a.refusal)) record_refused case
      where
        case : Accepted p G H → stepped.Goes p G H B s → AtRecord s.refusal
        case A (stepped.no_record f e) = subst AtRecord (sym (ap (λ a. a.refusal) e)) (record_none A f)
        case A (stepped.taken r e t) = subst AtRecord (sym e) (record_passed A r)

  -- ---- the walk
  module _ (n : ℕ) (B : List ℕ) where
    abbrev AtWalk : ℕ → Type 0
    AtWalk = WalkTabled p G H n B

    walk_refused : (k : ℕ) → Refusal p G H k → 1 ≤ k → k ≤ 8 → AtWalk k
    walk_refused k r lo hi = record {
      field = field_refused k r;
      out_of_rule = neither (λ e. omega arith) (λ c. never k r lo c.0);
      no_record = neither (λ e. omega arith) (λ c. never k r lo c.0);
      no_closing = neither (λ e. omega arith) (λ c. never k r lo c.0);
      passes = neither (λ e. omega arith) (λ c. never k r lo c.0);
      only = inl (omega arith);
    }

    walk_out : Accepted p G H → most < n → AtWalk 14
    walk_out A l = record {
      field = field_passed 14 A (λ k lo hi e. omega arith);
      out_of_rule = both refl (A, l);
      no_record = neither (λ e. omega arith) (λ (A', h, c). omega arith);
      no_closing = neither (λ e. omega arith) (λ (A', h, r, o). omega arith);
      passes = neither (λ e. omega arith) (λ (A', h, r, c). omega arith);
      only = inr refl;
    }

    walk_none : Accepted p G H → n ≤ most → (IsRecord p G H B → ⊥) → AtWalk 9
    walk_none A l f = record {
      field = field_passed 9 A (λ k lo hi e. omega arith);
      out_of_rule = neither (λ e. omega arith) (λ (A', h). omega arith);
      no_record = both refl (A, l, f);
      no_closing = neither (λ e. omega arith) (λ (A', h, r, c). f r);
      passes = neither (λ e. omega arith) (λ (A', h, r, c). f r);
      only = inl (omega arith);
    }

    walk_open : Accepted p G H → n ≤ most → IsRecord p G H B → walk.StaysOpen p G H B n → AtWalk 10
    walk_open A l r o = record {
      field = field_passed 10 A (λ k lo hi e. omega arith);
      out_of_rule = neither (λ e. omega arith) (λ (A', h). omega arith);
      no_record = neither (λ e. omega arith) (λ (A', h, f). f r);
      no_closing = both refl (A, l, r, o A);
      passes = neither (λ e. omega arith) (λ (A', h, r', (s, d, B', lo, hi, c, u)). o A' s d B' lo hi c u);
      only = inl (omega arith);
    }

    walk_passed : {s d : ℕ} {B' : List ℕ} → Accepted p G H → n ≤ most → IsRecord p G H B → s ≤ n → walk.Closes p G H B s d B' → AtWalk 0
    walk_passed {B' = B'} A l r w c = record {
      field = field_passed 0 A (λ k lo hi e. omega arith);
      out_of_rule = neither (λ e. omega arith) (λ (A', h). omega arith);
      no_record = neither (λ e. omega arith) (λ (A', h, f). f r);
      no_closing = neither (λ e. omega arith) (λ (A', h, r', o).
          let k = c.closing A' in o _ _ (basis_of A' B') k.some w k.chain k.closed);
      passes = both refl (let k = c.closing A in (A, l, r, (_, _, basis_of A B', k.some, w, k.chain, k.closed)));
      only = inl (omega arith);
    }

    pub walk_tabled : (w : WalkAnswer) → walk.Walks p G H n B w → AtWalk w.refusal
    walk_tabled w = door_tabled AtWalk (λ k. ap (λ a. a.refusal)) walk_refused case
      where
        case : Accepted p G H → walk.Goes p G H n B w → AtWalk w.refusal
        case A (walk.budget l e) = subst AtWalk (sym (ap (λ a. a.refusal) e)) (walk_out A l)
        case A (walk.no_record l f e) = subst AtWalk (sym (ap (λ a. a.refusal) e)) (walk_none A l f)
        case A (walk.closed l r c) = subst AtWalk (sym c.number) (walk_passed A l r c.within c.closes)
        case A (walk.spent l r s) = subst AtWalk (sym s.number) (walk_open A l r s.none)

  -- ---- the walk from the order
  module _ {B : List ℕ} (first : IsFirst p G H B) (A : Accepted p G H) (B₀ : Basis (setting A)) (st : Start (setting A) B₀) where
    -- what holds from the order's record holds from its basis
    from_first : (Q : Basis (setting A) → Type 0) → Q (basis_of A B) → Q B₀
    from_first Q q = subst Q (start_unique (setting A) (basis_of A B) B₀ (first.start A) st) q

    pub order_open : {n : ℕ} → walk.StaysOpen p G H B n → Open (setting A) B₀ n
    order_open {n} o = from_first (λ X. Open (setting A) X n) (o A)

    pub order_closing : {l d : ℕ} {B' : List ℕ} → walk.Closes p G H B l d B' → Closing (setting A) B₀ l d (basis_of A B')
    order_closing {l} {d} {B'} c = from_first (λ X. Closing (setting A) X l d (basis_of A B')) (c.closing A)

  module _ (n : ℕ) where
    abbrev AtPeriod : ℕ → Type 0
    AtPeriod = PeriodTabled p G H n

    period_refused : (k : ℕ) → Refusal p G H k → 1 ≤ k → k ≤ 8 → AtPeriod k
    period_refused k r lo hi = record {
      field = field_refused k r;
      out_of_rule = neither (λ e. omega arith) (λ c. never k r lo c.0);
      no_closing = neither (λ e. omega arith) (λ c. never k r lo c.0);
      passes = neither (λ e. omega arith) (λ c. never k r lo c.0);
      only = inl hi;
    }

    period_out : Accepted p G H → most < n → AtPeriod 14
    period_out A l = record {
      field = field_passed 14 A (λ k lo hi e. omega arith);
      out_of_rule = both refl (A, l);
      no_closing = neither (λ e. omega arith) (λ (A', h, B₀, st, o). omega arith);
      passes = neither (λ e. omega arith) (λ (A', h, B₀, st, c). omega arith);
      only = inr (inr refl);
    }

    period_open : {B : List ℕ} → Accepted p G H → n ≤ most → IsFirst p G H B → walk.StaysOpen p G H B n → AtPeriod 10
    period_open {B} A l f o = record {
      field = field_passed 10 A (λ k lo hi e. omega arith);
      out_of_rule = neither (λ e. omega arith) (λ (A', h). omega arith);
      no_closing = both refl (A, l, basis_of A B, f.start A, o A);
      passes = neither (λ e. omega arith) (λ (A', h, B₀, st, (s, d, B', lo, hi, c, u)). order_open f A' B₀ st o s d B' lo hi c u);
      only = inr (inl refl);
    }

    period_passed :
        {s d : ℕ} {B B' : List ℕ} → Accepted p G H →
        n ≤ most → IsFirst p G H B → s ≤ n → walk.Closes p G H B s d B' →
        AtPeriod 0
    period_passed {B = B} {B'} A l f w c = record {
      field = field_passed 0 A (λ k lo hi e. omega arith);
      out_of_rule = neither (λ e. omega arith) (λ (A', h). omega arith);
      no_closing = neither (λ e. omega arith) (λ (A', h, B₀, st, o).
          let k = order_closing f A' B₀ st c in o _ _ (basis_of A' B') k.some w k.chain k.closed);
      passes = both refl (let k = c.closing A in (A, l, basis_of A B, f.start A, (_, _, basis_of A B', k.some, w, k.chain, k.closed)));
      only = inl (omega arith);
    }

    pub period_tabled : (o : PeriodAnswer) → walks.FromOrder p G H n o → AtPeriod o.refusal
    period_tabled o = door_tabled AtPeriod (λ k. ap (λ a. a.refusal)) period_refused case
      where
        case : Accepted p G H → walks.Goes p G H n o → AtPeriod o.refusal
        case A (walks.budget l e) = subst AtPeriod (sym (ap (λ a. a.refusal) e)) (period_out A l)
        case A (walks.closed l B f c) = subst AtPeriod (sym c.number) (period_passed A l f c.within c.closes)
        case A (walks.spent l B f g e) = subst AtPeriod (sym (ap (λ a. a.refusal) e)) (period_open A l f g)

  -- ---- the unit
  -- the unit that a walk finds, and its degree
  unit_within : {n l d : ℕ} (A : Accepted p G H) → l ≤ n → unit.Finds p G H l d → UnitWithin A n d
  unit_within A h f =
      let (B₀, st) = order_exists (setting A) in
      let (B, c) = f A B₀ st in
      let (E, F, u) = unit_exists (setting A) B₀ st c in
      record { convention = e0_monic; B₀ = B₀; E = E; F = F; l = _; d = _; unit = u; within = h; degree = (unit_degree (setting A) B₀ st u).0 }

  degree_settled : {n l d k : ℕ} (A : Accepted p G H) → unit.Finds p G H l d → UnitWithin A n k → k ≡ d
  degree_settled {d = d} {k} A f u =
      let st = u.unit.start in
      let (B, c) = f A u.B₀ st in
      let (el, ed, eB) = closing_unique (setting A) u.B₀ st.good u.unit.closing c in
      let e = has_unique (setting A).𝓥 u.degree (unit_degree (setting A) u.B₀ st u.unit).0 in
      omega arith

  module _ (i n : ℕ) (rows scratch : List ℕ) where
    abbrev AtUnit : ℕ → Type 0
    AtUnit = UnitTabled i p G H n rows scratch

    same_c : {v v' : Convention} {c c' : ℕ} → unit.Lent i v c rows scratch n → unit.Lent i v' c' rows scratch n → c ≡ c'
    same_c x y = six_unique x.six y.six

    -- what closes within the budget does not stay open
    not_open :
        {l d : ℕ} → l ≤ n → unit.Finds p G H l d →
        (A : Accepted p G H) (B₀ : Basis (setting A)) → Start (setting A) B₀ → Open (setting A) B₀ n →
        ⊥
    not_open h f A B₀ st o = let (B, k) = f A B₀ st in o _ _ B k.some h k.chain k.closed

    unit_refused : (k : ℕ) → Refusal p G H k → 1 ≤ k → k ≤ 8 → AtUnit k
    unit_refused k r lo hi = record {
      field = field_refused k r;
      out_of_rule = neither (λ e. omega arith) (λ c. never k r lo c.0);
      no_closing = neither (λ e. omega arith) (λ c. never k r lo c.0);
      no_room = neither (λ e. omega arith) (λ c. never k r lo c.0);
      passes = neither (λ e. omega arith) (λ c. never k r lo c.0);
      only = inl hi;
    }

    unit_out : Accepted p G H → ((v : Convention) (c : ℕ) → unit.Lent i v c rows scratch n → ⊥) → AtUnit 14
    unit_out A f = record {
      field = field_passed 14 A (λ k lo hi e. omega arith);
      out_of_rule = both refl (A, f);
      no_closing = neither (λ e. omega arith) (λ (A', v, c, b, B₀, st, o). f v c b);
      no_room = neither (λ e. omega arith) (λ (A', v, c, k, b, u, h). f v c b);
      passes = neither (λ e. omega arith) (λ (A', v, c, k, b, u, h). f v c b);
      only = inr (inr (inr refl));
    }

    unit_open : (v : Convention) (c : ℕ) → Accepted p G H → unit.Lent i v c rows scratch n → unit.Misses p G H n → AtUnit 10
    unit_open v c A b o = record {
      field = field_passed 10 A (λ k lo hi e. omega arith);
      out_of_rule = neither (λ e. omega arith) (λ (A', f). f v c b);
      no_closing = both refl (let (B₀, st) = order_exists (setting A) in (A, v, c, b, B₀, st, o A B₀ st));
      no_room = neither (λ e. omega arith) (λ (A', v', c', k, b', u, h). missed A' u);
      passes = neither (λ e. omega arith) (λ (A', v', c', k, b', u, h). missed A' u);
      only = inr (inl refl);
    }
      where
        missed : {k : ℕ} (A' : Accepted p G H) → UnitWithin A' n k → ⊥
        missed A' u =
            let k = u.unit.closing in
            o A' u.B₀ u.unit.start _ _ u.unit.B k.some u.within k.chain k.closed

    unit_narrow : {l d : ℕ} (v : Convention) (c : ℕ) → Accepted p G H → unit.Lent i v c rows scratch n → l ≤ n → unit.Finds p G H l d → c ≤ d → AtUnit 11
    unit_narrow {l} {d} v c A b h f g = record {
      field = field_passed 11 A (λ k lo hi e. omega arith);
      out_of_rule = neither (λ e. omega arith) (λ (A', f). f v c b);
      no_closing = neither (λ e. omega arith) (λ (A', v', c', b', B₀, st, o). not_open h f A' B₀ st o);
      no_room = both refl (A, v, c, d, b, unit_within A h f, omega arith);
      passes = neither (λ e. omega arith) (λ (A', v', c', k, b', u, q).
          let x : c ≡ c' = same_c b b' in let y : k ≡ d = degree_settled A' f u in omega arith);
      only = inr (inr (inl refl));
    }

    unit_passed : {l d : ℕ} (v : Convention) (c : ℕ) → Accepted p G H → unit.Lent i v c rows scratch n → l ≤ n → unit.Finds p G H l d → d < c → AtUnit 0
    unit_passed {l} {d} v c A b h f g = record {
      field = field_passed 0 A (λ k lo hi e. omega arith);
      out_of_rule = neither (λ e. omega arith) (λ (A', f). f v c b);
      no_closing = neither (λ e. omega arith) (λ (A', v', c', b', B₀, st, o). not_open h f A' B₀ st o);
      no_room = neither (λ e. omega arith) (λ (A', v', c', k, b', u, q).
          let x : c ≡ c' = same_c b b' in let y : k ≡ d = degree_settled A' f u in omega arith);
      passes = both refl (A, v, c, d, b, unit_within A h f, omega arith);
      only = inl (omega arith);
    }

    pub unit_tabled : (m : UnitAnswer) (rows' scratch' : List ℕ) → unit.Makes i p G H n rows scratch m rows' scratch' → AtUnit m.refusal
    unit_tabled m rows' scratch' = door_tabled AtUnit (λ k. refused_number) unit_refused case
      where
        case : Accepted p G H → unit.Goes i p G H n rows scratch m rows' scratch' → AtUnit m.refusal
        case A (unit.bad f r) = subst AtUnit (sym (refused_number r)) (unit_out A f)
        case A (unit.spent v c b o r) = subst AtUnit (sym (refused_number r)) (unit_open v c A b o)
        case A (unit.narrow v c l d b h f g r) = subst AtUnit (sym (refused_number r)) (unit_narrow v c A b h f g)
        case A (unit.made v c l d b h f g r) = subst AtUnit (sym r.number) (unit_passed v c A b h f g)
