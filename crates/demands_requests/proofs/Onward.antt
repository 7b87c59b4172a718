-- Walk records that are advanced again and again (request E2).
--   both_calls        two calls, with budgets b and c, are one with b + c
--   goes_on           what is left open is refused next for its steps alone
--   begins, stands    a record stands in the chain from a basis of its field, and stays there
use mathlib.Core.Path.{◌≡◌, refl, sym, ap, ◌∙◌, subst}
use mathlib.Core.Logic.{◌≢◌, inl, inr}
use mathlib.Core.List.{List}
use Prim.Native.Nat.{ℕ, ◌+◌, ◌*◌, ◌≤◌, ◌<◌}
use native.Mathlib.Omega.{arith}
use Rattle.base_answers.specs.Limits.{most}
use Rattle.field_open.specs.Refusal.{Accepted}
use Rattle.field_open.proofs.Door.{door_out, door_map}
use Rattle.field_open.proofs.Stages.{refusal_unique}
use Rattle.field_open.proofs.Accept.{accepted_none}
use Rattle.math_chain.specs.Chain.{Chain, Open, here}
use Rattle.math_chain.proofs.Walk.{open_none}
use Rattle.basis_record.specs.Record.{setting, basis_of, IsRecord}
use Rattle.walk_chain.specs.Walk.{WalkAnswer, Walks, Reaches, StaysOpen}
use Rattle.walk_chain.specs.Walk as walk
use Rattle.walk_chain.proofs.TakenUp.{reaches_then, stays_then, closes_then, taken_up}
use Rattle.walk_chain.proofs.Room.{reaches_room, walks_room}
use Rattle.walk_record.specs.declared.WalkRecord.{WalkRecord}
use Rattle.walk_record.specs.State.{going, closed, IsRefusal, Passed}
use Rattle.walk_record.proofs.States.{not_going, not_closed, low_refusal, within}
use Rattle.walk_record.specs.Record.{most_steps, list_g, list_h, marked, moved, Unfit}
use Rattle.door_record.specs.Advance as advance
use Rattle.door_record.specs.Advance.{After, Advances}
use Rattle.demands.proofs.Cases.{walk_closed, walk_spent, walk_reaches, walk_stays}
use Rattle.demands.proofs.Tabled.{walk_tabled}
use Rattle.demands_requests.specs.Sheets.{Stands, still_open, has_closed}
use Rattle.demands_requests.proofs.Advanced.{state, named, passed_on}

-- ---- the walk
-- an answer but 10 is also that of a longer walk
longer : {p n : ℕ} (m : ℕ) {G H B : List ℕ} (w : WalkAnswer) → n + m ≤ most → Walks p G H n B w → w.refusal ≢ 10 → Walks p G H (n + m) B w
longer {p} {n} m {G} {H} {B} w l h f = door_map (λ k e. e) go h
  where
    go : walk.Goes p G H n B w → walk.Goes p G H (n + m) B w
    go (walk.budget k e) = absurd (omega arith)
    go (walk.no_record k a e) = walk.no_record l a e
    go (walk.closed k a c) =
        let s : w.steps ≤ n = c.within in
        walk.closed l a (record { within = omega arith; number = c.number; closes = c.closes })
    go (walk.spent k a c) = absurd (f c.number)

-- from a basis of an accepted field, with a budget within its rule, it closes or spends its budget
never_refused : {p n : ℕ} {G H B : List ℕ} (w : WalkAnswer) → Accepted p G H → n ≤ most → IsRecord p G H B → Walks p G H n B w → w.refusal ≢ 0 → w.refusal ≢ 10 → ⊥
never_refused {p} {n} {G} {H} {B} w A l is h f g = go (h.goes (refusal_unique p G H h.no 0 h.first (accepted_none p G H A)))
  where
    go : walk.Goes p G H n B w → ⊥
    go (walk.budget k e) = omega arith
    go (walk.no_record k a e) = a is
    go (walk.closed k a c) = f c.number
    go (walk.spent k a c) = g c.number

-- ---- one record
-- of a record that a walk left open: only its steps can make it unfit
module _ {b : ℕ} (r : WalkRecord) (f : Passed r.state → ⊥) (u : Unfit r → ⊥) (w : WalkAnswer) (h : Walks r.p (list_g r) (list_h r) b r.basis w)
    (t : w.refusal ≡ 10) where
  abbrev left : WalkRecord
  left = moved r w.basis w.steps w.sum going

  field : Accepted r.p (list_g r) (list_h r)
  field = ((walk_tabled r.p (list_g r) (list_h r) b r.basis w h).no_closing.0 t).0

  reached : IsRecord r.p (list_g r) (list_h r) w.basis
  reached = (walk_reaches r.p b (list_g r) (list_h r) r.basis w h (inr t)).is_a_record

  only_steps : Unfit left → most_steps < left.steps
  only_steps (inl (a, g)) = absurd (a refl)
  only_steps (inr (inl l)) = l
  only_steps (inr (inr l)) = let k = (within r u).1 in let m : w.sum ≤ 16 * w.steps = (walks_room w h).sum in absurd (omega arith)

  -- taken up again, it is the long walk
  module _ {c : ℕ} (within : b + c ≤ most) (v : WalkAnswer) (k : Walks r.p (list_g r) (list_h r) c w.basis v) where
    both_walks : Walks r.p (list_g r) (list_h r) (b + c) r.basis (record { refusal = v.refusal; steps = b + v.steps; sum = w.sum + v.sum; basis = v.basis })
    both_walks = taken_up r.p (list_g r) (list_h r) b c r.basis w v within h t k

    both_moved : (s : ℕ) → moved left v.basis v.steps v.sum s ≡ moved r v.basis (b + v.steps) (w.sum + v.sum) s
    both_moved s =
        let n : w.steps ≡ b = (walk_spent r.p b (list_g r) (list_h r) r.basis w h t).all in
        let e : (r.steps + w.steps) + v.steps ≡ r.steps + (b + v.steps) = omega arith in
        let d : (r.sum + w.sum) + v.sum ≡ r.sum + (w.sum + v.sum) = omega arith in
        λ i. record { p = r.p; g = r.g; ng = r.ng; h = r.h; nh = r.nh; basis = v.basis; steps = e i; sum = d i; state = s }

    both_after : {z : WalkRecord} → After left v z → Advances (b + c) r z
    both_after (advance.closed q e) = advance.walked f u _ both_walks (advance.closed q (e ∙ both_moved closed))
    both_after (advance.spent q e) = advance.walked f u _ both_walks (advance.spent q (e ∙ both_moved going))
    both_after (advance.refused x y e) = absurd (never_refused v field (omega arith) reached k x y)

  both_left : {c : ℕ} {z : WalkRecord} → b + c ≤ most → left.steps ≤ most_steps → Advances c left z → Advances (b + c) r z
  both_left l k (advance.passed s e) = absurd (not_going s refl)
  both_left l k (advance.unfit g x d) = let m = only_steps x in absurd (omega arith)
  both_left l k (advance.walked g x v y a) = both_after l v y a

  -- refused next: for its steps, with 14
  next_refused : {c : ℕ} {z : WalkRecord} → c ≤ most → Advances c left z → IsRefusal z.state → (most_steps < left.steps) × (z ≡ marked left 14)
  next_refused l (advance.passed s e) x = absurd (not_going s refl)
  next_refused l (advance.unfit g y d) x =
      (only_steps y, d.goes (refusal_unique r.p (list_g r) (list_h r) d.no 0 d.first (accepted_none r.p (list_g r) (list_h r) field)))
  next_refused l (advance.walked g y v k (advance.closed n e)) x = absurd (not_closed x (ap state e))
  next_refused l (advance.walked g y v k (advance.spent n e)) x = absurd (not_going (inr x) (ap state e))
  next_refused l (advance.walked g y v k (advance.refused m n e)) x = absurd (never_refused v field l reached k m n)

-- the number that a walk refused with is a state that is passed over
refused_passed : {b : ℕ} (r : WalkRecord) {o : WalkRecord} (w : WalkAnswer) → Walks r.p (list_g r) (list_h r) b r.basis w → w.refusal ≢ 0 → w.refusal ≢ 10 → o ≡ marked r w.refusal →
    Passed o.state
refused_passed {b} r w h f g e =
    subst Passed (sym (ap state e)) (inr (named (walk_tabled r.p (list_g r) (list_h r) b r.basis w h).only f g))

pub both_calls : {b c : ℕ} {r o z : WalkRecord} → b + c ≤ most → Advances b r o → Advances c o z → (o.state ≡ going → o.steps ≤ most_steps) → Advances (b + c) r z
both_calls l (advance.passed s e) y k = advance.passed s (passed_on (subst (λ x. Passed x.state) (sym e) s) y ∙ e)
both_calls {r = r} {o} l (advance.unfit f u d) y k =
    let z = passed_on (door_out {C = Passed o.state} (λ n g q e. subst Passed (sym (ap state e)) (inr (low_refusal g q))) (λ A e. inr (inr (ap state e))) d) y in
    advance.unfit f u (door_map (λ n e. z ∙ e) (λ e. z ∙ e) d)
both_calls {c = c} l (advance.walked f u w h (advance.closed q e)) y k =
    let z = passed_on (inl (ap state e)) y in
    advance.walked f u w (longer c w l h (λ t. omega arith)) (advance.closed q (z ∙ e))
both_calls {b} {c} {r} {o} {z} l (advance.walked f u w h (advance.spent t e)) y k =
    let m : (left r f u w h t).steps ≤ most_steps = subst (λ x. x.steps ≤ most_steps) e (k (ap state e)) in
    both_left r f u w h t l m (subst (λ x. Advances c x z) e y)
both_calls {c = c} {r} {o} l (advance.walked f u w h (advance.refused m n e)) y k =
    let z = passed_on (refused_passed r w h m n e) y in
    advance.walked f u w (longer c w l h n) (advance.refused m n (z ∙ e))

pub goes_on : {b c : ℕ} {r o z : WalkRecord} → c ≤ most → Advances b r o → o.state ≡ going → Advances c o z → IsRefusal z.state →
    (most_steps < o.steps) × (z ≡ marked o 14)
goes_on l (advance.passed s e) q y x = absurd (not_going s (sym (ap state e) ∙ q))
goes_on l (advance.unfit f u d) q y x =
    absurd (door_out {C = ⊥} (λ n g m e. g (sym (ap state e) ∙ q)) (λ A e. let i : 14 ≡ 0 = sym (ap state e) ∙ q in omega arith) d)
goes_on l (advance.walked f u w h (advance.closed m e)) q y x = let i : closed ≡ 0 = sym (ap state e) ∙ q in absurd (omega arith)
goes_on {c = c} {r = r} {z = z} l (advance.walked f u w h (advance.spent t e)) q y x =
    subst (λ o. (most_steps < o.steps) × (z ≡ marked o 14)) (sym e) (next_refused r f u w h t l (subst (λ o. Advances c o z) e y) x)
goes_on l (advance.walked f u w h (advance.refused m n e)) q y x = absurd (m (sym (ap state e) ∙ q))

-- ---- the chain from a basis
pub begins : {B : List ℕ} {r : WalkRecord} → IsRecord r.p (list_g r) (list_h r) B → r.basis ≡ B → r.steps ≡ 0 → r.sum ≡ 0 → r.state ≡ going → Stands B r
begins {B} {r} is e s d q =
    still_open q
    (record {
      is_a_record = subst (IsRecord r.p (list_g r) (list_h r)) (sym e) is;
      chain = λ A.
          subst (λ n. Chain (setting A) (basis_of A B) n r.sum (basis_of A r.basis)) (sym s)
          (subst (λ n. Chain (setting A) (basis_of A B) 0 n (basis_of A r.basis)) (sym d)
          (subst (λ b. Chain (setting A) (basis_of A B) 0 0 (basis_of A b)) (sym e) here));
    })
    (λ A. subst (Open (setting A) (basis_of A B)) (sym s) (open_none (setting A) (basis_of A B)))

module _ {B : List ℕ} {b : ℕ} {r : WalkRecord} (A : Accepted r.p (list_g r) (list_h r)) (is : IsRecord r.p (list_g r) (list_h r) B) (l : b ≤ most)
    (reaches : Reaches r.p (list_g r) (list_h r) B r.steps r.sum r.basis) (none : StaysOpen r.p (list_g r) (list_h r) B r.steps) where
  after_stands : {o : WalkRecord} (w : WalkAnswer) → Walks r.p (list_g r) (list_h r) b r.basis w → After r w o → Stands B o
  after_stands w h (advance.closed z e) =
      let k = (walk_closed r.p b (list_g r) (list_h r) r.basis w h z).closes in
      subst (Stands B) (sym e) (has_closed refl (closes_then reaches is none k))
  after_stands w h (advance.spent t e) =
      let k = walk_reaches r.p b (list_g r) (list_h r) r.basis w h (inr t) in
      let m = walk_stays r.p b (list_g r) (list_h r) r.basis w h t in
      subst (Stands B) (sym e) (still_open refl (reaches_then reaches k) (stays_then reaches is none k m))
  after_stands w h (advance.refused f g e) = absurd (never_refused w A l reaches.is_a_record h f g)

  open_stands : {o : WalkRecord} → r.state ≡ going → r.steps ≤ most_steps → Advances b r o → Stands B o
  open_stands q k (advance.passed s e) = absurd (not_going s q)
  open_stands q k (advance.unfit f (inl (a, g)) d) = absurd (a q)
  open_stands q k (advance.unfit f (inr (inl m)) d) = absurd (omega arith)
  open_stands q k (advance.unfit f (inr (inr m)) d) = let i = reaches_room A is reaches in absurd (omega arith)
  open_stands q k (advance.walked f u w h a) = after_stands w h a

pub stands : {B : List ℕ} {b : ℕ} {r o : WalkRecord} → Accepted r.p (list_g r) (list_h r) → IsRecord r.p (list_g r) (list_h r) B → b ≤ most → Stands B r →
    (r.state ≡ going → r.steps ≤ most_steps) → Advances b r o → Stands B o
stands A is l (still_open q reaches none) k a = open_stands A is l reaches none q (k q) a
stands {B} A is l (has_closed q c) k a = subst (Stands B) (sym (passed_on (inl q) a)) (has_closed q c)
