-- What the tests say.
--   factor_in          what `factor` asks of rows that hold a unit
--   off_one at_one     the unit is scaled by a convention exactly where the factor is 1
--   unfit_six unfit_last   the answers of `unfit`
use mathlib.Core.Path.{◌≡◌, sym, ap, ◌∙◌, subst}
use mathlib.Core.Logic.{◌≢◌}
use mathlib.Core.Bool.{Bool, true, false}
use mathlib.Core.List.{List}
use Prim.Native.Nat.{ℕ, ◌/◌, ◌<◌}
use lib.ListN.{length}
use Rattle.base_answers.specs.Limits.{SixRows}
use Rattle.base_answers.proofs.Limits.{six_at, six_none, six_unique}
use Rattle.math_ring.proofs.Laws as rg
use Rattle.math_valued.specs.Polynomial.{polys, IsUnit}
use Rattle.math_valued.proofs.Polynomial.{P_path}
use Rattle.math_rows.specs.Reading.{Reading}
use Rattle.math_rows.specs.Made.{reading}
use Rattle.math_rows.proofs.Unique.{cast_inj, const_inj}
use Rattle.field_open.specs.Refusal.{Accepted}
use Rattle.math_ideals.specs.Setting.{Setting}
use Rattle.math_ideals.specs.Element.{O, sc}
use Rattle.math_chain.specs.Convention.{Convention, number, Scaled}
use Rattle.math_chain.proofs.Scaling.{scale_unique}
use Rattle.math_chain.proofs.Unit.{positive_weight}
use Rattle.basis_record.specs.Record.{setting}
use Rattle.field_series.specs.Keeps.{Kept}
use Rattle.field_series.specs.declared.OpenedField.{OpenedField}
use Rattle.unit_finish.specs.Rows.{six, HoldsUnit}
use Rattle.unit_scale.proofs.Invertible.{constant_unit}
use Rattle.unit_scale.specs.Scale.{constant, FactorAsks, Factors}
use Rattle.door_rescale.specs.Rescale.{ScaledRows}
use Rattle.door_rescale.specs.Test.{MisscaledAsks, Misscaled, Unfit}

-- ---- the factor
module _ {f : OpenedField} {i c : ℕ} {rows : List ℕ} (t : MisscaledAsks f i c rows) where
  pub factor_in : HoldsUnit f.field.p t.known.G t.known.H c rows → FactorAsks f i c rows
  factor_in h = record { G = t.known.G; H = t.known.H; kept = t.known.kept; k = t.k; named = t.named; most = t.most; holds = h }

module _ {p : ℕ} {G H : List ℕ} (A : Accepted p G H) where
  abbrev S : Setting
  S = setting A

  abbrev ρ : Reading p
  ρ = reading p A.prime

  open (polys S.𝓥).ops use {mul as ◌⊠◌, 𝟏 as 1ₚ}
  open (O S).ops use {mul as ◌⊗◌}

  infixl 70 ◌⊗◌ ◌⊠◌
  one_is : constant A 1 ≡ 1ₚ
  one_is = P_path S.𝓥 (ap ρ.𝓥.const ρ.cast_one ∙ ρ.const_one)

  one_times : (E : (O S).El) → sc S (constant A 1) ⊗ E ≡ E
  one_times E = ap (λ s. sc S s ⊗ E) one_is ∙ rg.one-mul (O S) E

  one_unit : IsUnit S.𝓥 1ₚ
  one_unit = (1ₚ, sym ((polys S.𝓥).laws.mul-one 1ₚ))

  -- a number that stands for 1 is 1
  only_one : (s : ℕ) → s < p → constant A s ≡ 1ₚ → s ≡ 1
  only_one s l e = cast_inj ρ s 1 l A.prime.big (const_inj ρ (ρ.cast s) (ρ.cast 1) (ap (λ z. z.0) (e ∙ sym one_is)))

  scaled_one : (k : Convention) (c s : ℕ) (rows : List ℕ) → 0 < s → s < p → HoldsUnit p G H c rows →
      Scaled S k (sc S (constant A s) ⊗ six A c 0 rows) → Scaled S k (six A c 0 rows) → s ≡ 1
  scaled_one k c s rows u l h x y =
      let (e, w) = positive_weight S k (h.unit A) in
      only_one s l (scale_unique S k (six A c 0 rows) (constant A s) 1ₚ w (constant_unit A s l u) one_unit x (subst (Scaled S k) (sym (rg.one-mul (O S) (six A c 0 rows))) y))

module _ {f : OpenedField} {i c s : ℕ} {rows : List ℕ} (t : MisscaledAsks f i c rows) (x : Factors f i c rows s) where
  pub off_one : s ≢ 1 → Misscaled f i c rows true
  off_one d G H kept k e r =
      let A = kept.accepted in
      d (scaled_one A k c s rows x.some x.below r.holds (x.law G H A kept r.holds k e) (r.scaled A))

  pub at_one : s ≡ 1 → ((G H : List ℕ) → Kept f G H → HoldsUnit f.field.p G H c rows) → Misscaled f i c rows false
  at_one d holds G H kept k e = record {
    the_six_rows = record { room = t.most; whole = t.whole };
    holds = holds G H kept;
    scaled = λ A.
        let E = six A c 0 rows in
        subst (Scaled (setting A) k) (ap (λ n. (O (setting A)).ops.mul (sc (setting A) (constant A n)) E) d ∙ one_times A E) (x.law G H A kept (holds G H kept) k e);
  }

-- ---- the answers of `unfit`
module _ (f : OpenedField) (i j : ℕ) (rows : List ℕ) where
  pub unfit_six : (SixRows (length rows) → ⊥) → Unfit f i j rows true
  unfit_six d G H kept k k' c e e' r = six_none rows d c r.the_six_rows

  pub unfit_last : (r : Bool) → SixRows (length rows) → (k : Convention) × (number k ≡ i) → (k' : Convention) × (number k' ≡ j) → Misscaled f i (length rows / 6) rows r → Unfit f i j rows r
  unfit_last true b x y m = λ G H kept k k' c e e' r. m G H kept k e (subst (λ n. ScaledRows k f.field.p G H n rows) (six_unique r.the_six_rows (six_at rows b)) r)
  unfit_last false b x y m = record { k = x.0; k' = y.0; from = x.1; to = y.1; rows_fit = λ G H kept. m G H kept x.0 x.1 }
