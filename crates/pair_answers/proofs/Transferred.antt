-- Rows that `transfer` carries over.
--   transferred_holds   the unit's rows become rows of the other pair's unit
--   transferred_unit    they are what `unit` gives for the other pair
use mathlib.Core.Path.{◌≡◌, refl, sym, ap, ◌∙◌, subst}
use mathlib.Core.List.{List}
use Prim.Native.Nat.{ℕ, ◌*◌}
use native.Mathlib.Omega.{arith}
use lib.ListN.{length}
use Rattle.field_open.specs.Refusal.{Accepted}
use Rattle.field_open.proofs.Door.{door_out}
use Rattle.door_unit.specs.Unit.{UnitAnswer, Makes}
use Rattle.math_chain.specs.Convention.{Convention}
use Rattle.unit_finish.specs.Rows.{Holds}
use Rattle.pair_laws.specs.OneField.{OneField}
use Rattle.pair_laws.specs.Rows.{RowsCarry}
use Rattle.pair_agree.specs.Answer.{Coefficients, Both}
use Rattle.door_compare.proofs.Doors.{doors_goes, doors_out}
use Rattle.door_transfer.specs.Transfer.{Goes, unfit, carried, Transfers}
use Rattle.door_transfer.proofs.Once.{transfers_unique}
use Rattle.pair_theory.proofs.Refused.{accept_carry}
use Rattle.pair_answers.proofs.UnitRows.{rows_way, rows_below, holds_over}
use Rattle.pair_answers.proofs.Made.{made_rows}

pub transferred_holds : (p : ℕ) {G H G' H' : List ℕ} {k : Convention} {l d c : ℕ} {r r₁ : List ℕ}
    → Holds k p G H l d c r → Transfers p G H G' H' r 0 r₁ → Holds k p G' H' l d c r₁
transferred_holds p {G} {H} {G'} {H'} {k} {l} {d} {c} {r} {r₁} h =
    doors_out (λ _ f m e. absurd (f (sym e.number))) goes
  where
    goes : Both p G H G' H' → Goes p G H G' H' r 0 r₁ → Holds k p G' H' l d c r₁
    goes s (unfit u e) = absurd (let q : 0 ≡ 14 = e.number in omega arith)
    goes s (carried c' t z e q) =
        let a : length r ≡ 6 * c = h.whole in
        let b : length r ≡ 6 * c' = t.whole in
        let j : c' ≡ c = omega arith in
        let (w, rows) = rows_way (subst (λ m. RowsCarry p G H G' H' m r r₁) j q) in
        holds_over s.first w (rows_below c r h.each w r₁ (e ∙ a) rows) h

-- a success leaves no refusal of the field
accepted_made : (p : ℕ) (G H : List ℕ) {i n : ℕ} {x y : List ℕ} {v : UnitAnswer} {r s : List ℕ} → Makes i p G H n x y v r s → v.refusal ≡ 0 → Accepted p G H
accepted_made p G H a z = door_out (λ k f l h. absurd (f (sym (ap (λ m. m.refusal) h.answer) ∙ z))) (λ A k. A) a

module _ (p : ℕ) {G H G' H' : List ℕ} (cs : Coefficients p G H) (cs' : Coefficients p G' H') (one : OneField p G H G' H')
    (i n : ℕ) (x y x' y' : List ℕ) (ex : length x ≡ length x') (ey : length y ≡ length y') (v w : UnitAnswer) (r r' s s' : List ℕ) where
  pub transferred_unit : Makes i p G H n x y v r s → Makes i p G' H' n x' y' w r' s' → v.refusal ≡ 0
      → (k : ℕ) (r₁ : List ℕ) → Transfers p G H G' H' r k r₁ → (k ≡ 0) × (r₁ ≡ r')
  transferred_unit a b z k r₁ t =
      let q = made_rows p cs cs' one i n x y x' y' ex ey v w r r' s s' a b z in
      let A = accepted_made p G H a z in
      transfers_unique p G H G' H' r k 0 r₁ r' t (doors_goes (record { first = A; second = accept_carry p cs cs' one A })
      (carried q.c (record { room = q.room; whole = q.whole }) refl (q.whole' ∙ sym q.whole) q.carries))
