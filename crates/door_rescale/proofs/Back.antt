-- What `rescale` makes of rows.
--   turned_rows      what comes out of accepted rows is scaled by the other convention
--   rescales_back    there and back: the second answer is 0, and the rows are as they were
--   rescales_holds   what holds the unit of a closing chain under one convention becomes what holds it under the other
--   holds_rows rows_accepted   and it is accepted
use mathlib.Core.Path.{◌≡◌, refl, sym, ◌∙◌, subst}
use mathlib.Core.List.{List}
use Prim.Native.Nat.{ℕ, ◌*◌, ◌≤◌}
use native.Mathlib.Omega.{arith}
use lib.ListN.{length}
use Rattle.field_open.specs.Refusal.{Accepted}
use Rattle.field_open.proofs.Door.{door_out, door_map}
use Rattle.field_open.proofs.Stages.{refusal_unique}
use Rattle.field_open.proofs.Accept.{accepted_none}
use Rattle.base_answers.specs.Limits.{longest}
use Rattle.math_chain.specs.Convention.{Convention, number}
use Rattle.math_chain.proofs.Exists.{order_exists}
use Rattle.math_chain.proofs.Scaling.{number_unique}
use Rattle.basis_record.specs.Record.{setting}
use Rattle.unit_finish.specs.Rows.{Holds}
use Rattle.unit_scale.specs.Scale.{Turned}
use Rattle.unit_scale.proofs.Turned.{holds_unit, turned_unit, turned_holds, turned_back, turned_scaled}
use Rattle.door_rescale.specs.Rescale.{ScaledRows, Goes, unfit, turned, Rescales}
use Rattle.door_rescale.proofs.Once.{rescales_unique}

module _ {p : ℕ} {G H : List ℕ} where
  pub turned_rows : {k k' : Convention} {c : ℕ} {rows rows' : List ℕ} → ScaledRows k p G H c rows → Turned k' p G H c rows rows' → ScaledRows k' p G H c rows'
  turned_rows s t = record {
    the_six_rows = record { room = s.the_six_rows.room; whole = t.size ∙ s.the_six_rows.whole };
    holds = turned_unit s.holds t;
    scaled = turned_scaled t;
  }

  -- the unit of a closing chain is scaled by its convention
  pub holds_rows : {k : Convention} {l d c : ℕ} {rows : List ℕ} → c ≤ longest → Holds k p G H l d c rows → ScaledRows k p G H c rows
  holds_rows room h = record {
    the_six_rows = record { room = room; whole = h.whole };
    holds = holds_unit h;
    scaled = λ A. let (B₀, st) = order_exists (setting A) in (h.unit A B₀ st).scaled;
  }

  module _ {i j n : ℕ} {rows rows' : List ℕ} (x : Rescales p G H i j rows n rows') (z : n ≡ 0) where
    -- an answer without a refusal turned the rows
    pub record Done : Type 0 where
      pub k : Convention
      pub k' : Convention
      pub c : ℕ
      pub from : number k ≡ i
      pub to : number k' ≡ j
      pub before : ScaledRows k p G H c rows
      pub over : Turned k' p G H c rows rows'
      pub field : Accepted p G H

    pub done : Done
    done = door_out (λ m f l r. absurd (f (sym r.number ∙ z))) goes x
      where
        goes : Accepted p G H → Goes p G H i j rows n rows' → Done
        goes A (unfit a r) = absurd (let o : n ≡ 14 = r.number in omega arith)
        goes A (turned k k' c e e' s _ t) = record { k = k; k' = k'; c = c; from = e; to = e'; before = s; over = t; field = A }

    -- the way back
    pub back_of : Rescales p G H j i rows' 0 rows
    back_of = door_map (λ m r. record { number = sym z ∙ r.number; kept = sym r.kept }) goes x
      where
        goes : Goes p G H i j rows n rows' → Goes p G H j i rows' 0 rows
        goes (unfit a r) = absurd (let o : n ≡ 14 = r.number in omega arith)
        goes (turned k k' c e e' s _ t) = turned k' k c e' e (turned_rows s t) refl (turned_back s.holds s.scaled t)

    pub rescales_back : {m : ℕ} {rows'' : List ℕ} → Rescales p G H j i rows' m rows'' → (m ≡ 0) × (rows'' ≡ rows)
    rescales_back {m} {rows''} y = rescales_unique p G H j i rows' m 0 rows'' rows y back_of

    -- the unit of a closing chain
    pub rescales_holds : (k k' : Convention) {l d c : ℕ} → number k ≡ i → number k' ≡ j → Holds k p G H l d c rows → Holds k' p G H l d c rows'
    rescales_holds k k' {l} {d} {c} e e' h =
        let o = done in
        let a : length rows ≡ 6 * c = h.whole in
        let b : length rows ≡ 6 * o.c = o.before.the_six_rows.whole in
        let same : o.c ≡ c = omega arith in
        turned_holds h (subst (λ m. Turned m p G H c rows rows') (number_unique o.k' k' (o.to ∙ sym e')) (subst (λ m. Turned o.k' p G H m rows rows') same o.over))

  -- and it is accepted, as all rows so scaled are
  pub rows_accepted : {i j n c : ℕ} {rows rows' : List ℕ} (k k' : Convention) → number k ≡ i → number k' ≡ j → Accepted p G H → ScaledRows k p G H c rows →
      Rescales p G H i j rows n rows' → n ≡ 0
  rows_accepted {i} {j} {n} {c} {rows} {rows'} k k' e e' A s x = goes (x.goes (refusal_unique p G H x.no 0 x.first (accepted_none p G H A)))
    where
      goes : Goes p G H i j rows n rows' → n ≡ 0
      goes (unfit a r) = absurd (a k k' c e e' s)
      goes (turned _ _ _ _ _ _ z _) = z
