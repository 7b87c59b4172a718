-- Crates field_fill, unit_make, unit_scale and unit_check: what they ask settles what they fill and answer.
--   grow_unique            the two series
--   make_unique            the six rows of the unit, and the scratch
--   no_convention_unique   whether a number names no convention
--   convention_of_unique   the convention that it names
--   factor_unique          the constant that scales a unit by a convention
--   turns_unique           the six rows so scaled
--   is_unit_unique         whether six rows hold a unit of positive degree and its inverse
use mathlib.Core.Path.{◌≡◌, refl, sym, ap, ◌∙◌}
use mathlib.Core.Bool.{Bool, true, false}
use mathlib.Core.List.{List}
use Prim.Native.Nat.{ℕ}
use native.Mathlib.Omega.{arith}
use Rattle.std.specs.Prelude.{Option, Some, None, IfSome}
use Rattle.std.specs.Option.{is_none}
use Rattle.base_answers.proofs.Tests.{decides_unique}
use Rattle.math_rows.specs.Made.{reading}
use Rattle.math_rows.proofs.Unique.{cast_inj, const_inj}
use Rattle.math_chain.proofs.Scaling.{scale_unique}
use Rattle.math_chain.proofs.Unit.{positive_weight}
use Rattle.basis_record.specs.Record.{setting}
use Rattle.field_roots.proofs.Only.{series_of_unique}
use Rattle.field_series.specs.declared.OpenedField.{OpenedField}
use Rattle.field_fill.specs.Fill.{Room, Grown}
use Rattle.unit_make.specs.Making.{MakeAsks, Making}
use Rattle.unit_finish.specs.Rows.{six, HoldsUnit}
use Rattle.unit_finish.proofs.Rows.{rows_unique}
use Rattle.unit_scale.proofs.Invertible.{constant_unit}
use Rattle.unit_scale.specs.declared.Convention.{Convention as Way}
use Rattle.unit_scale.specs.declared.Convention.TheVariants.{Monic, Norm}
use Rattle.unit_scale.specs.Scale.{meant, numbered, NoConvention, constant, FactorAsks, Factors, TurnAsks, Turns}
use Rattle.unit_scale.proofs.Turned.{turned_unique}
use Rattle.unit_check.specs.Check.{IsUnitAsks, IsUnitGives}

pub grow_unique : {p : ℕ} {G H r w : List ℕ} (r₁ w₁ r₂ w₂ : List ℕ) → Room p G H r w → Grown p G H r r₁ w₁ → Grown p G H r r₂ w₂ → (r₁ ≡ r₂) × (w₁ ≡ w₂)
grow_unique r₁ w₁ r₂ w₂ t a b = series_of_unique r₁ w₁ r₂ w₂ t.accepted a.series b.series (a.size ∙ sym b.size)

pub make_unique : {f : OpenedField} {B : List ℕ} {l d c : ℕ} {rows s : List ℕ} (r₁ s₁ r₂ s₂ : List ℕ) → MakeAsks f B l d c rows s
    → Making f B l d c rows s r₁ s₁ → Making f B l d c rows s r₂ s₂ → (r₁ ≡ r₂) × (s₁ ≡ s₂)
make_unique {c = c} r₁ s₁ r₂ s₂ t a b = (rows_unique t.task.known.kept.accepted c r₁ r₂ (a.goes t) (b.goes t), a.blank ∙ sym b.blank)

-- ---- unit_scale
pub no_convention_unique : (n : ℕ) (r s : Bool) → NoConvention n r → NoConvention n s → r ≡ s
no_convention_unique n true true h k = refl
no_convention_unique n true false h (way, e) = absurd (h way e)
no_convention_unique n false true (way, e) k = absurd (k way e)
no_convention_unique n false false h k = refl

pub convention_of_unique : (n : ℕ) (r s : Option Way) → IfSome r (λ w. numbered w ≡ n) → NoConvention n (is_none r)
    → IfSome s (λ w. numbered w ≡ n) → NoConvention n (is_none s) → r ≡ s
convention_of_unique n None None a h b k = refl
convention_of_unique n None (Some w) a h b k = absurd (h (meant w) b)
convention_of_unique n (Some w) None a h b k = absurd (k (meant w) a)
convention_of_unique n (Some Monic) (Some Monic) a h b k = refl
convention_of_unique n (Some Monic) (Some Norm) a h b k = absurd (omega (arith, a, b))
convention_of_unique n (Some Norm) (Some Monic) a h b k = absurd (omega (arith, a, b))
convention_of_unique n (Some Norm) (Some Norm) a h b k = refl

-- one constant scales
pub factor_unique : {f : OpenedField} {no c : ℕ} {rows : List ℕ} (s s' : ℕ) → FactorAsks f no c rows → Factors f no c rows s → Factors f no c rows s' → s ≡ s'
factor_unique {f} {no} {c} {rows} s s' t h k =
    let A = t.kept.accepted in
    let ρ = reading f.field.p A.prime in
    let (w, l) = positive_weight (setting A) t.k (t.holds.unit A) in
    let e = scale_unique (setting A) t.k (six A c 0 rows) (constant A s) (constant A s') l (constant_unit A s h.below h.some) (constant_unit A s' k.below k.some)
    (h.law t.G t.H A t.kept t.holds t.k t.named) (k.law t.G t.H A t.kept t.holds t.k t.named) in
    cast_inj ρ s s' h.below k.below (const_inj ρ (ρ.cast s) (ρ.cast s') (ap (λ x. x.0) e))

pub turns_unique : {f : OpenedField} {no c : ℕ} {rows : List ℕ} (r₁ r₂ : List ℕ) → TurnAsks f no c rows → Turns f no c rows r₁ → Turns f no c rows r₂ → r₁ ≡ r₂
turns_unique r₁ r₂ t h k =
    turned_unique t.kept.accepted t.holds (h.law t.G t.H t.kept t.holds t.k t.named) (k.law t.G t.H t.kept t.holds t.k t.named)

-- ---- unit_check
pub is_unit_unique : {f : OpenedField} {c : ℕ} {rows : List ℕ} (r s : Bool) → IsUnitAsks f c rows → IsUnitGives f c rows r → IsUnitGives f c rows s → r ≡ s
is_unit_unique {f} {c} {rows} r s t h k =
    let o = t.known in
    decides_unique r s (HoldsUnit f.field.p o.G o.H c rows) (h o.G o.H o.kept) (k o.G o.H o.kept)
