-- Crates basis_field, step_next and walk_chain: an opened field and a record of it, as each function asks for them, settle its result.
use mathlib.Core.Path.{◌≡◌, refl, sym, ◌∙◌}
use mathlib.Core.Logic.{◌⊎◌, inl, inr}
use mathlib.Core.List.{List}
use Prim.Native.Nat.{ℕ}
use Rattle.field_open.specs.Refusal.{Accepted}
use Rattle.basis_record.specs.Record.{IsRecord}
use Rattle.field_series.specs.declared.OpenedField.{OpenedField}
use Rattle.field_series.specs.Keeps.{Known}
use Rattle.basis_field.specs.First.{First}
use Rattle.step_part.specs.Parting.{StepOnRowsAsks}
use Rattle.step_next.specs.Steps.{Advanced}
use Rattle.step_next.specs.declared.StepTaken.{StepTaken}
use Rattle.step_next.proofs.Once.{steps_unique}
use Rattle.step_next.specs.InField.{StepInFieldAsks, StepInFieldGives}
use Rattle.walk_chain.specs.Walk.{WalkAnswer, Closed, Spent}
use Rattle.walk_chain.specs.Going.{WalkOnRowsAsks, Gone}
use Rattle.walk_chain.proofs.Walk.{reaches_unique, closes_unique, not_both}
use Rattle.walk_chain.specs.InField.{WalkInFieldAsks, WalkInFieldGives}
use Rattle.basis_field.proofs.First as first

pub first_unique : {c : OpenedField} {B B' : List ℕ} → Known c → First c B → First c B' → B ≡ B'
first_unique {c} {B} {B'} g h k = first.first_unique g.kept.accepted B B' (h g.G g.H g.kept) (k g.G g.H g.kept)

pub advanced_unique : {p : ℕ} {g h gh : List ℕ} {dr dw : ℕ} {r w B : List ℕ} (o o' : StepTaken) → StepOnRowsAsks p g h gh dr dw r w B
    → Advanced p g h gh dr dw r w B o → Advanced p g h gh dr dw r w B o' → o ≡ o'
advanced_unique o o' g h k = steps_unique {o = o} {o' = o'} g.keeps.accepted g.is_a_record (h g.G g.H g.keeps g.is_a_record) (k g.G g.H g.keeps g.is_a_record)

pub next_unique : {c : OpenedField} {B : List ℕ} (o o' : StepTaken) → StepInFieldAsks c B → StepInFieldGives c B o → StepInFieldGives c B o' → o ≡ o'
next_unique o o' g h k = advanced_unique o o' g h k

-- ---- a walk closes within its budget or spends it, and does so in one way
module _ {p : ℕ} {G H : List ℕ} (A : Accepted p G H) {n : ℕ} {B : List ℕ} (is : IsRecord p G H B) where
  gone_unique : (v w : WalkAnswer) → Closed p G H n B v ⊎ Spent p G H n B v → Closed p G H n B w ⊎ Spent p G H n B w → v ≡ w
  gone_unique v w (inl e) (inl f) =
      let (x, y, z) = closes_unique p G H A B is e.closes f.closes in
      λ i. record { refusal = (e.number ∙ sym f.number) i; steps = x i; sum = y i; basis = z i }
  gone_unique v w (inl e) (inr f) = absurd (not_both p G H A B is e.within e.closes f.none)
  gone_unique v w (inr e) (inl f) = absurd (not_both p G H A B is f.within f.closes e.none)
  gone_unique v w (inr e) (inr f) =
      let (y, z) = reaches_unique p G H A B is refl e.reaches f.reaches in
      λ i. record { refusal = (e.number ∙ sym f.number) i; steps = (e.all ∙ sym f.all) i; sum = y i; basis = z i }

pub go_unique : {p : ℕ} {g h gh : List ℕ} {dr dw : ℕ} {r w B : List ℕ} {budget : ℕ} (v v' : WalkAnswer) → WalkOnRowsAsks p g h gh dr dw r w B budget
    → Gone p g h gh dr dw r w B budget v → Gone p g h gh dr dw r w B budget v' → v ≡ v'
go_unique v v' g h k = gone_unique g.keeps.accepted g.is_a_record v v' (h g.G g.H g.keeps g.is_a_record) (k g.G g.H g.keeps g.is_a_record)

pub walked_unique : {c : OpenedField} {B : List ℕ} {n : ℕ} (v v' : WalkAnswer) → WalkInFieldAsks c B n → WalkInFieldGives c B n v → WalkInFieldGives c B n v' → v ≡ v'
walked_unique v v' g h k = go_unique v v' g h k
