-- What `finished` and the loop ask of their parts and hand out.
--   monic_in      what `unit_monic::monic` asks of the rows that hold the product
--   inverse_in    what `inverted` asks after it
--   finishes      so the six rows hold the unit and its inverse
use mathlib.Core.Path.{◌≡◌, sym, ap, ◌∙◌, subst}
use mathlib.Core.List.{List}
use Prim.Native.Nat.{ℕ, ◌+◌, ◌*◌, ◌-◌, ◌/◌, ◌%◌, ◌<◌}
use native.Mathlib.Omega.{arith}
use native.Mathlib.Decide.{dec_lt}
use lib.ListN.{length, get_or}
use Rattle.field_open.specs.Refusal.{Accepted}
use Rattle.math_chain.specs.Convention.{e0_monic}
use Rattle.math_chain.specs.Unit.{UnitOf}
use Rattle.math_chain.proofs.Closing.{start_unique}
use Rattle.basis_record.specs.Record.{setting, basis_of}
use Rattle.unit_monic.specs.Monic.{MonicAsks, MonicMade}
use Rattle.field_series.specs.declared.OpenedField.{OpenedField}
use Rattle.unit_finish.specs.Rows.{six, Holds}
use Rattle.unit_finish.specs.Finish.{InvertedAsks, Inverses, FinishedAsks, Finishes}
use Rattle.unit_finish.proofs.Stored.{storable}
use Rattle.unit_finish.proofs.Ending.{top_some, fits_at, unit_at, unit_of}

module _ (f : OpenedField) (c d : ℕ) (rows s : List ℕ) (t : FinishedAsks f c d rows s) where
  abbrev p : ℕ
  p = f.field.p

  abbrev G : List ℕ
  G = t.task.known.G

  abbrev H : List ℕ
  H = t.task.known.H

  abbrev A : Accepted p G H
  A = t.task.known.kept.accepted

  top_at : 0 < get_or rows (d + 1 - 1) 0
  top_at = subst (λ j. 0 < get_or rows j 0) (let o : d ≡ d + 1 - 1 = omega arith in o) (top_some A t.along (t.task.is_first.start A) (t.task.closes.closing A) t.task.room)

  pub monic_in : MonicAsks f.field.p c (d + 1) rows
  monic_in = record {
    modulus = storable A;
    some = omega arith;
    upto = (let l : d < c = t.task.room in omega arith);
    room = (let w : length rows ≡ 6 * c = t.along.whole in omega arith);
    most = t.task.most;
    top = top_at;
    top_below = t.along.each (d + 1 - 1);
  }

  module _ (rows₁ : List ℕ) (made : MonicMade f.field.p c (d + 1) rows rows₁) where
    one_at : (get_or rows d 0 * made.by) % p ≡ 1
    one_at = ap (λ j. (get_or rows j 0 * made.by) % p) (let o : d ≡ d + 1 - 1 = omega arith in o) ∙ made.one

    pub inverse_in : (s₁ : List ℕ) → length s₁ ≡ length s → InvertedAsks f c (d / 2 + 1) rows₁ s₁
    inverse_in s₁ es = record {
      known = t.task.known;
      space = record { most = t.task.most; whole = made.size ∙ t.along.whole; even = es ∙ t.even ∙ sym made.size };
      upto = (let l : d < c = t.task.room in omega arith);
      each = λ i. elim (dec_lt i (c + c + c)) [
        | yes u ↦ made.each i u
        | no u ↦ subst (λ v. v < f.field.p) (sym (made.rest i (omega arith))) (t.along.each i)
      ];
      rest = λ i u. made.rest i u ∙ t.along.rest i u;
      fits = λ A'. fits_at A' t.along (t.task.is_first.start A') (t.task.closes.closing A') t.task.room rows₁ made.by one_at made.at;
      unit = λ A'. unit_at A' t.along (t.task.is_first.start A') (t.task.closes.closing A') t.task.room rows₁ made.by one_at made.at;
    }

    pub holds_at : (s₁ rows₂ s₂ : List ℕ) → Inverses f c rows₁ s₁ rows₂ s₂ → Holds e0_monic p G H t.l d c rows₂
    holds_at s₁ rows₂ s₂ i = record {
      whole = i.size ∙ made.size ∙ t.along.whole;
      each = i.each;
      unit = λ A' B₀ st.
          let S = setting A' in
          let first = t.task.is_first.start A' in
          let (ν, e) = unit_at A' t.along first (t.task.closes.closing A') t.task.room rows₁ made.by one_at made.at in
          let (x, y) = i.law G H A' t.task.known.kept ν e in
          let u = unit_of A' t.along first (t.task.closes.closing A') t.task.room rows₁ made.by one_at made.at ν e in
          subst (λ b. UnitOf S e0_monic b t.l d (six A' c 0 rows₂) (six A' c (c + c + c) rows₂)) (start_unique S (basis_of A' t.B) B₀ first st)
          (subst (λ v. UnitOf S e0_monic (basis_of A' t.B) t.l d v (six A' c (c + c + c) rows₂)) (sym x) (subst (λ v. UnitOf S e0_monic (basis_of A' t.B) t.l d (six A' c 0 rows₁) v) (sym y) u));
    }

-- what `finished` hands out
pub finishes : (f : OpenedField) (c d : ℕ) (rows s rows₁ rows₂ s₂ : List ℕ) → MonicMade f.field.p c (d + 1) rows rows₁ → Inverses f c rows₁ s rows₂ s₂ → Finishes f c d rows s rows₂ s₂
finishes f c d rows s rows₁ rows₂ s₂ m i = record {
  size = i.size ∙ m.size;
  blank = i.blank;
  goes = λ t. holds_at f c d rows s t rows₁ m s rows₂ s₂ i;
}
