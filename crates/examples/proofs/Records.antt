-- The lines of bases, steps and walks.
--   order_sound, steps_sound, closes_sound, spends_sound, period_sound, no_period_sound
-- Each line's own answer meets the contract; the contract has one answer.
use mathlib.Core.Path.{◌≡◌, refl, sym, subst}
use mathlib.Core.Bool.{true}
use mathlib.Core.List.{List, [], ◌∷◌}
use Prim.Native.Nat.{ℕ, ◌+◌}
use lib.Dec.{T, eqb→eq, leb→le}
use lib.ListN.{length, get_or}
use Rattle.math_fp.proofs.Trial.{and_l, and_r}
use Rattle.field_open.specs.Refusal.{Accepted}
use Rattle.field_open.proofs.Accept.{accepted_none}
use Rattle.math_ideals.specs.Ideal.{Basis}
use Rattle.math_ideals.specs.Next.{Next, Start}
use Rattle.math_chain.specs.Chain.{Degree, Chain, Closing, Open}
use Rattle.basis_record.specs.Record.{setting, basis_of, IsRecord}
use Rattle.field_open.proofs.Door.{door_goes}
use Rattle.door_order.specs.Answer.{Orders}
use Rattle.basis_field.specs.First.{IsFirst}
use Rattle.door_order.proofs.Answer.{orders_unique}
use Rattle.door_step.specs.Answer as stepped
use Rattle.door_step.specs.Answer.{Answers}
use Rattle.door_step.proofs.Answers.{answers_unique}
use Rattle.walk_chain.specs.Walk as walk
use Rattle.walk_chain.specs.Walk.{Walks}
use Rattle.walk_chain.proofs.Walk.{walks_unique}
use Rattle.door_period.specs.Order as told
use Rattle.door_period.specs.Order.{FromOrder}
use Rattle.door_period.proofs.Order.{from_order_unique}
use Rattle.examples_lists.specs.Lists.{alike}
use Rattle.examples_tests.specs.Rows.{Rows, stored}
use Rattle.examples_tests.specs.Tests.{every}
use Rattle.examples_tests.specs.Walks.{at, degree_l, total, unclosed, step, walks}
use Rattle.examples_tests.proofs.Fields.{every_at, accepted_of}
use Rattle.examples_tests.proofs.Bases.{basis_l, good_rows}
use Rattle.examples_tests.proofs.Steps.{next_rows, basis_is, record_of}
use Rattle.examples_tests.proofs.Chains.{good_at, chain_of, degree_at, open_of, closing_of, start_of}
use Rattle.examples_table.specs.Lines.{Input, order, steps, closes, spends, period, no_period}
use Rattle.examples_table.specs.Decide.{Hints, closed, field, is_good, is_record, is_one, orders, may_go_on, walked, closing, spending, periodic, unperiodic, decide}
use Rattle.examples.specs.Lines.{Holds}

module _ (k : Input) (h : Hints) where
  pub field_of : T (field k h) → Accepted k.p k.G k.H
  field_of t = accepted_of k.p k.G k.H t

  -- a record that holds a good basis
  record_is : (b : Rows) → T (field k h) → T (every (is_record k h b)) → IsRecord k.p k.G k.H (stored b)
  record_is b f t = record_of (stored b) b (field_of f) (every_at (is_record k h b) t 0) (λ A. good_rows A h.r h.w b (every_at (is_record k h b) t 1))

  basis_of_lem : (b : Rows) → T (every (is_record k h b)) → (A : Accepted k.p k.G k.H) → basis_l A b ≡ basis_of A (stored b)
  basis_of_lem b t A = sym (basis_is A (stored b) b (every_at (is_record k h b) t 0))

  -- ---- the order
  first_is : (b : Rows) → T (field k h) → T (every (is_record k h b)) → T (is_one k h b.U) → IsFirst k.p k.G k.H (stored b)
  first_is b f t u = record {
    is_a_record = record_is b f t;
    start = λ A. subst (Start (setting A)) (basis_of_lem b t A) (start_of A h.r h.w b (every_at (is_record k h b) t 1) u);
  }

  pub order_sound : (b : Rows) → T (decide (order k b) h) → Holds (order k b)
  order_sound b t =
      let q : (i : ℕ) → T (get_or (orders k h b) i true) = every_at (orders k h b) t in
      let m : Orders k.p k.G k.H (record { refusal = 0; basis = stored b }) =
      door_goes (accepted_none k.p k.G k.H (field_of (q 0))) refl (refl, first_is b (q 0) (q 1) (q 2)) in
      record { meets = m; alone = λ o u. orders_unique o (record { refusal = 0; basis = stored b }) u m }

  -- ---- a step
  pub steps_sound : (a : Rows) (d : ℕ) (b : Rows) → T (decide (steps k a d b) h) → Holds (steps k a d b)
  steps_sound a d b t =
      let q : (i : ℕ) → T (get_or (may_go_on k h a d b) i true) = every_at (may_go_on k h a d b) t in
      let one : (i : ℕ) → T (get_or (step k.p k.G k.H h.r h.w a b) i true) = every_at (step k.p k.G k.H h.r h.w a b) (q 3) in
      let b-is : (A : Accepted k.p k.G k.H) → basis_l A b ≡ basis_of A (stored b) = λ A. sym (basis_is A (stored b) b (q 2)) in
      let m : Answers k.p k.G k.H (stored a) (record { refusal = 0; degree = d; basis = stored b }) = record {
        no = 0;
        first = accepted_none k.p k.G k.H (field_of (q 0));
        none = λ f. absurd (f refl);
        goes = λ e. stepped.taken (record_is a (q 0) (q 1)) refl (record {
          is_a_record = record_of (stored b) b (field_of (q 0)) (q 2) (λ A. good_rows A h.r h.w b (one 0));
          next = λ A. subst (λ x. Next (setting A) x (basis_of A (stored b))) (basis_of_lem a (q 1) A) (subst (Next (setting A) (basis_l A a)) (b-is A) (next_rows A a b (one 1)));
          degree = λ A. subst (λ x. Degree (setting A) x d) (basis_of_lem a (q 1) A) (subst (Degree (setting A) (basis_l A a)) (eqb→eq (degree_l a) d (q 4))
              (degree_at A h.r h.w a (every_at (is_record k h a) (q 1) 1) [] b tt (q 3)));
        });
      } in
      record { meets = m; alone = λ s u. answers_unique s (record { refusal = 0; degree = d; basis = stored b }) u m }

  -- ---- a walk: its chain, from the record of a to that of b
  module _ (n : ℕ) (a : Rows) (s d : ℕ) (b : Rows) (t : T (every (walked k h n a s d b))) where
    q : (i : ℕ) → T (get_or (walked k h n a s d b) i true)
    q = every_at (walked k h n a s d b) t

    good_a : T (is_good k h a)
    good_a = every_at (is_record k h a) (q 2) 1

    from_is : (A : Accepted k.p k.G k.H) → basis_l A a ≡ basis_of A (stored a)
    from_is A = basis_of_lem a (q 2) A

    last_is : (A : Accepted k.p k.G k.H) → basis_l A (at a h.passed) ≡ basis_of A (stored b)
    last_is A = sym (basis_is A (stored b) (at a h.passed) (q 6))

    from_record : IsRecord k.p k.G k.H (stored a)
    from_record = record_is a (q 0) (q 2)

    last_record : IsRecord k.p k.G k.H (stored b)
    last_record = record_of (stored b) (at a h.passed) (field_of (q 0)) (q 6) (λ A. good_at A h.r h.w a good_a h.passed (q 3))

    -- what holds of the written walk holds of the records
    moved : (A : Accepted k.p k.G k.H) (P : Basis (setting A) → ℕ → ℕ → Basis (setting A) → Type 0)
        → P (basis_l A a) (length h.passed) (total a h.passed) (basis_l A (at a h.passed)) → P (basis_of A (stored a)) s d (basis_of A (stored b))
    moved A P x =
        subst (λ y. P y s d (basis_of A (stored b))) (from_is A)
        (subst (P (basis_l A a) s d) (last_is A)
        (subst (λ y. P (basis_l A a) s y (basis_l A (at a h.passed))) (eqb→eq (total a h.passed) d (q 5))
        (subst (λ y. P (basis_l A a) y (total a h.passed) (basis_l A (at a h.passed))) (eqb→eq (length h.passed) s (q 4)) x)))

    walk_chain : (A : Accepted k.p k.G k.H) → Chain (setting A) (basis_of A (stored a)) s d (basis_of A (stored b))
    walk_chain A = moved A (Chain (setting A)) (chain_of A h.r h.w a good_a h.passed (q 3))

    walk_open : T (unclosed k.p h.passed) → (A : Accepted k.p k.G k.H) → Open (setting A) (basis_of A (stored a)) s
    walk_open o A = moved A (λ x l m y. Open (setting A) x l) (open_of A h.r h.w a good_a h.passed (q 3) o)

    walk_closing : T (closed k.p h.passed) → (A : Accepted k.p k.G k.H) → Closing (setting A) (basis_of A (stored a)) s d (basis_of A (stored b))
    walk_closing o A = moved A (Closing (setting A)) (go h.passed (q 3) o)
      where
        go : (cs : List Rows) → T (walks k.p k.G k.H h.r h.w a cs) → T (closed k.p cs) → Closing (setting A) (basis_l A a) (length cs) (total a cs) (basis_l A (at a cs))
        go [] w c = absurd c
        go (c ∷ cs) w o = closing_of A h.r h.w a good_a c cs w (and_l (unclosed k.p cs) (alike k.p c.U (1 ∷ [])) o) (and_r (unclosed k.p cs) (alike k.p c.U (1 ∷ [])) o)

  pub closes_sound : (n : ℕ) (a : Rows) (s d : ℕ) (b : Rows) → T (decide (closes k n a s d b) h) → Holds (closes k n a s d b)
  closes_sound n a s d b t =
      let c : (i : ℕ) → T (get_or (closing k h n a s d b) i true) = every_at (closing k h n a s d b) t in
      let m : Walks k.p k.G k.H n (stored a) (record { refusal = 0; steps = s; sum = d; basis = stored b }) = record {
        no = 0;
        first = accepted_none k.p k.G k.H (field_of (q n a s d b (c 0) 0));
        none = λ f. absurd (f refl);
        goes = λ e. walk.closed (leb→le n 1000000 (q n a s d b (c 0) 1)) (from_record n a s d b (c 0)) (record {
          within = leb→le s n (c 2);
          number = refl;
          closes = record { is_a_record = last_record n a s d b (c 0); closing = walk_closing n a s d b (c 0) (c 1) };
        });
      } in
      record { meets = m; alone = λ v u. walks_unique k.p k.G k.H n (stored a) v (record { refusal = 0; steps = s; sum = d; basis = stored b }) u m }

  pub spends_sound : (n : ℕ) (a : Rows) (d : ℕ) (b : Rows) → T (decide (spends k n a d b) h) → Holds (spends k n a d b)
  spends_sound n a d b t =
      let c : (i : ℕ) → T (get_or (spending k h n a d b) i true) = every_at (spending k h n a d b) t in
      let m : Walks k.p k.G k.H n (stored a) (record { refusal = 10; steps = n; sum = d; basis = stored b }) = record {
        no = 0;
        first = accepted_none k.p k.G k.H (field_of (q n a n d b (c 0) 0));
        none = λ f. absurd (f refl);
        goes = λ e. walk.spent (leb→le n 1000000 (q n a n d b (c 0) 1)) (from_record n a n d b (c 0)) (record {
          number = refl;
          all = refl;
          none = walk_open n a n d b (c 0) (c 1);
          reaches = record { is_a_record = last_record n a n d b (c 0); chain = walk_chain n a n d b (c 0) };
        });
      } in
      record { meets = m; alone = λ v u. walks_unique k.p k.G k.H n (stored a) v (record { refusal = 10; steps = n; sum = d; basis = stored b }) u m }

  -- ---- the walk from the order
  pub period_sound : (n l e : ℕ) → T (decide (period k n l e) h) → Holds (period k n l e)
  period_sound n l e t =
      let a : Rows = h.start in
      let b : Rows = at a h.passed in
      let z : (i : ℕ) → T (get_or (periodic k h n l e) i true) = every_at (periodic k h n l e) t in
      let c : (i : ℕ) → T (get_or (closing k h n a l (e + e) b) i true) = every_at (closing k h n a l (e + e) b) (z 0) in
      let w : (i : ℕ) → T (get_or (walked k h n a l (e + e) b) i true) = q n a l (e + e) b (c 0) in
      let m : FromOrder k.p k.G k.H n (record { refusal = 0; period = record { 0 = l }; regulator = record { 0 = e } }) = record {
        no = 0;
        first = accepted_none k.p k.G k.H (field_of (w 0));
        none = λ f. absurd (f refl);
        goes = λ f. told.closed (leb→le n 1000000 (w 1)) (stored a) (first_is a (w 0) (w 2) (z 1)) (record {
          last = stored b;
          number = refl;
          within = leb→le l n (c 2);
          closes = record { is_a_record = last_record n a l (e + e) b (c 0); closing = walk_closing n a l (e + e) b (c 0) (c 1) };
        });
      } in
      record { meets = m; alone = λ v u. from_order_unique k.p k.G k.H n v (record { refusal = 0; period = record { 0 = l }; regulator = record { 0 = e } }) u m }

  pub no_period_sound : (n : ℕ) → T (decide (no_period k n) h) → Holds (no_period k n)
  no_period_sound n t =
      let a : Rows = h.start in
      let b : Rows = at a h.passed in
      let d : ℕ = total a h.passed in
      let z : (i : ℕ) → T (get_or (unperiodic k h n) i true) = every_at (unperiodic k h n) t in
      let c : (i : ℕ) → T (get_or (spending k h n a d b) i true) = every_at (spending k h n a d b) (z 0) in
      let w : (i : ℕ) → T (get_or (walked k h n a n d b) i true) = q n a n d b (c 0) in
      let m : FromOrder k.p k.G k.H n (told.refusal 10) = record {
        no = 0;
        first = accepted_none k.p k.G k.H (field_of (w 0));
        none = λ f. absurd (f refl);
        goes = λ f. told.spent (leb→le n 1000000 (w 1)) (stored a) (first_is a (w 0) (w 2) (z 1)) (walk_open n a n d b (c 0) (c 1)) refl;
      } in
      record { meets = m; alone = λ v u. from_order_unique k.p k.G k.H n v (told.refusal 10) u m }
