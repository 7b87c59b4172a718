-- `make`, from its three parts.
--   make_start, make_product, make_finish   what the parts ask
--   making                                  what they hand out together
--   finished_unique                         one outcome of `finished` for each input
use mathlib.Core.Path.{◌≡◌, sym, ap, ◌∙◌}
use mathlib.Core.List.{List}
use Prim.Native.Nat.{ℕ, ◌*◌, ◌-◌, ◌<◌, ◌≤◌}
use native.Mathlib.Omega.{arith}
use lib.ListN.{length, replicate, length-set, length-replicate}
use Rattle.field_series.specs.declared.OpenedField.{OpenedField}
use Rattle.unit_finish.specs.Finish.{Along, FinishedAsks, Finishes}
use Rattle.unit_finish.proofs.Rows.{rows_unique}
use Rattle.unit_make.specs.Making.{StartedAsks, Starts, ProductAsks, ProductOf, MakeAsks, Making}
use Rattle.unit_make.proofs.Passing.{begun, along_start}
use Rattle.unit_make.proofs.Stepping.{blank_as}

module _ (f : OpenedField) (B : List ℕ) (l d c : ℕ) (rows s : List ℕ) where
  pub make_start : MakeAsks f B l d c rows s → StartedAsks rows
  make_start t = let w : length rows ≡ 6 * c = t.whole in let r : d < c = t.task.room in record { some = omega arith }

  module _ (rows₁ s₁ : List ℕ) (a : Starts rows s rows₁ s₁) where
    pub make_product : MakeAsks f B l d c rows s → ProductAsks f c B l rows₁ s₁
    make_product t = let k = t.task.known in
        let (x, y) = blank_as s s₁ a.blank in
        let h : Along f.field.p k.G k.H B c 0 0 B rows₁ = along_start f.field.p k.G k.H B t.task.is_first c (let q : 5 ≤ f.field.p = k.kept.accepted.low in omega arith) (let r : d < c = t.task.room in omega arith) rows₁ (a.one ∙ ap begun t.whole) in
        record { d = d; task = t.task; along = h; even = y ∙ t.even ∙ t.whole ∙ sym h.whole; blank = x }

    module _ (rows₂ s₂ : List ℕ) (b : ProductOf f c B l rows₁ s₁ rows₂ s₂) where
      pub make_finish : MakeAsks f B l d c rows s → FinishedAsks f c d rows₂ s₂
      unfolding make_product
      make_finish t = record {
        B = B;
        l = l;
        task = t.task;
        along = b.goes (make_product t);
        even = (blank_as s₁ s₂ b.blank).1 ∙ (make_product t).even ∙ sym b.size;
      }

      pub making : (rows₃ s₃ : List ℕ) → Finishes f c d rows₂ s₂ rows₃ s₃ → Making f B l d c rows s rows₃ s₃
      unfolding make_finish
      making rows₃ s₃ e = record {
        size = e.size ∙ b.size ∙ ap length a.one ∙ length-set (replicate (length rows) 0) 0 1 ∙ length-replicate (length rows) 0;
        blank = e.blank ∙ ap (λ k. replicate k 0) ((blank_as s₁ s₂ b.blank).1 ∙ (blank_as s s₁ a.blank).1);
        goes = λ t. e.goes (make_finish t);
      }

pub finished_unique : {f : OpenedField} {c d : ℕ} {rows s : List ℕ} (r₁ s₁ r₂ s₂ : List ℕ) → FinishedAsks f c d rows s
    → Finishes f c d rows s r₁ s₁ → Finishes f c d rows s r₂ s₂ → (r₁ ≡ r₂) × (s₁ ≡ s₂)
finished_unique {c = c} r₁ s₁ r₂ s₂ t a b = (rows_unique t.task.known.kept.accepted c r₁ r₂ (a.goes t) (b.goes t), a.blank ∙ sym b.blank)
