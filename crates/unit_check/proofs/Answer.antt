-- From the opened field to the answer.
--   product_in        what `product_is_one` asks
--   inverse_gives     its answer, in the order of the field
--   unit_small, unit_inverse, unit_longer   the answer of `is_unit`, where the first, the second, the third test decides
use mathlib.Core.Path.{◌≡◌, sym, ap, ap₂, ◌∙◌, subst}
use mathlib.Core.Bool.{Bool, true, false}
use mathlib.Core.List.{List}
use Prim.Native.Nat.{ℕ, ◌+◌}
use native.Mathlib.Omega.{arith}
use lib.ListN.{length}
use Rattle.base_answers.specs.Decides.{Decides}
use Rattle.base_answers.proofs.Tests.{answer_no, carried}
use Rattle.base_lists.specs.Pieces.{cut, between}
use Rattle.base_lists.proofs.Trims.{sized}
use Rattle.math_triple.specs.Tri.{mul_t}
use Rattle.math_valued.proofs.Polynomial.{P_path}
use Rattle.math_rows.specs.Made.{reading}
use Rattle.math_rows.specs.Row.{row}
use Rattle.math_ideals.specs.Element.{O, val}
use Rattle.math_ideals.proofs.Sizes.{O_path}
use Rattle.math_chain.specs.Convention.{PositiveUnit}
use Rattle.field_open.specs.Refusal.{Accepted}
use Rattle.field_open.proofs.Accept.{with_prime}
use Rattle.field_series.specs.Keeps.{Kept}
use Rattle.field_series.specs.declared.OpenedField.{OpenedField}
use Rattle.basis_record.specs.Record.{setting, poly_of}
use Rattle.basis_field.proofs.Keeps as keeps
use Rattle.unit_inverse.specs.Inverse.{element}
use Rattle.unit_finish.specs.Rows.{six}
use Rattle.unit_finish.proofs.Rows.{cut_below}
use Rattle.unit_finish.proofs.Stored.{storable}
use Rattle.unit_check.specs.Check.{IsUnitAsks, IsUnitGives}
use Rattle.poly_tests.specs.Tests.{Below, Longer}
use Rattle.unit_check.specs.Code.{ProductAsks, ProductGives, IsInverseGives}
use Rattle.unit_check.proofs.Positive.{Length, positive_longer, longer_positive}
use Rattle.poly_tests.proofs.Lists.{to_longer, of_longer}
use Rattle.unit_check.proofs.Lists.{row_at, size_length}

module _ (f : OpenedField) (c : ℕ) (rows g h gh : List ℕ) (eg : g ≡ f.field.g) (eh : h ≡ f.field.h) (egh : gh ≡ f.field.gh) where
  -- the rows of an opened field stand for G, H and G H
  module _ {G H : List ℕ} (A : Accepted f.field.p G H) (k : Kept f G H) where
    g_is : row (reading f.field.p A.prime) g ≡ row (reading f.field.p A.prime) G
    g_is = ap (row (reading f.field.p A.prime)) eg ∙ (keeps.holds_of k A).g_is

    h_is : row (reading f.field.p A.prime) h ≡ row (reading f.field.p A.prime) H
    h_is = ap (row (reading f.field.p A.prime)) eh ∙ (keeps.holds_of k A).h_is

    gh_is : let ρ = reading f.field.p A.prime in row ρ gh ≡ ρ.𝓥.L.ops.mul (row ρ g) (row ρ h)
    gh_is = let ρ = reading f.field.p A.prime in ap (row ρ) egh ∙ (keeps.holds_of k A).gh_is ∙ sym (ap₂ ρ.𝓥.L.ops.mul g_is h_is)

  pub product_in : IsUnitAsks f c rows → ProductAsks f.field.p c g h gh rows
  product_in i = record {
    modulus = storable i.known.kept.accepted;
    most = i.most;
    whole = i.whole;
    g_most = (let o : length g ≡ 32 = ap length eg ∙ (keeps.g_row i.known.kept).size in omega arith);
    h_most = (let o : length h ≡ 32 = ap length eh ∙ (keeps.h_row i.known.kept).size in omega arith);
    gh_most = (let o : length gh ≡ 32 = ap length egh ∙ (keeps.gh_row i.known.kept).size in omega arith);
    gh_is = λ pr. gh_is (with_prime i.known.kept.accepted pr) i.known.kept;
  }

  pub inverse_gives : (r : Bool) → ProductGives f.field.p c g h rows r → IsInverseGives f c rows r
  inverse_gives r w G H A k =
      let S = setting A in
      let ρ = reading f.field.p A.prime in
      let o = ρ.𝓥.L.ops in
      let E = element ρ 0 c rows in
      let F = element ρ (c + c + c) c rows in
      let same : mul_t o (row ρ g) (row ρ h) E F ≡ mul_t o (row ρ G) (row ρ H) E F = ap₂ (λ x y. mul_t o x y E F) (g_is A k) (h_is A k) in
      carried
      (λ e. O_path S (P_path S.𝓥 (ap (λ v. v.a) (sym same ∙ e))) (P_path S.𝓥 (ap (λ v. v.b) (sym same ∙ e))) (P_path S.𝓥 (ap (λ v. v.c) (sym same ∙ e))))
      (λ e. same ∙ ap (val S) e)
      (w A.prime)

-- ---- the three tests
module _ {f : OpenedField} {c : ℕ} {rows : List ℕ} (i : IsUnitAsks f c rows) where
  pub unit_small : {r : Bool} → Decides r (Below f.field.p rows) → r ≡ false → IsUnitGives f c rows false
  unit_small d e G H k = answer_no (λ u. d.no! e u.each)

  pub unit_inverse : {r : Bool} → IsInverseGives f c rows r → r ≡ false → IsUnitGives f c rows false
  unit_inverse d e G H k = answer_no (λ u. (d G H k.accepted k).no! e (u.unit k.accepted).inverse)

  -- the lengths of E0 and F0
  module _ (each : Below f.field.p rows) {G H : List ℕ} (A : Accepted f.field.p G H) where
    abbrev E : (O (setting A)).El
    E = six A c 0 rows

    abbrev F : (O (setting A)).El
    F = six A c (c + c + c) rows

    length_at : (at : ℕ) → Length (setting A).𝓥 (poly_of A (cut at c rows)).0 (sized (cut at c rows)).0
    length_at at = size_length (reading f.field.p A.prime) (cut at c rows) (cut_below at c rows each) (sized (cut at c rows)).1

    longer_unit : (O (setting A)).ops.mul E F ≡ (O (setting A)).ops.𝟏 → Longer (cut 0 c rows) (cut (c + c + c) c rows) → PositiveUnit (setting A) E F
    longer_unit e m = longer_positive (setting A) E F e (length_at 0) (length_at (c + c + c)) (of_longer (sized (cut 0 c rows)).1 (sized (cut (c + c + c) c rows)).1 m)

    positive_rows : PositiveUnit (setting A) E F → Longer (cut 0 c rows) (cut (c + c + c) c rows)
    positive_rows u =
        to_longer (sized (cut 0 c rows)).1 (sized (cut (c + c + c) c rows)).1
        (positive_longer (setting A) E F u.inverse (length_at 0) (length_at (c + c + c)) u.has u.positive)

  pub unit_longer : {r s q : Bool} → Decides r (Below f.field.p rows) → r ≡ true → IsInverseGives f c rows s → s ≡ true
      → Decides q (Longer (between 0 c rows) (between (c + c + c) (c + c + c + c) rows)) → IsUnitGives f c rows q
  unit_longer {q = q} d e w v l G H k =
      let each : Below f.field.p rows = d.yes! e in
      carried
      (λ m. record { whole = i.whole; each = each; unit = λ A. longer_unit each A ((w G H A k).yes! v) m })
      (λ u. positive_rows each k.accepted (u.unit k.accepted))
      (subst (λ z. Decides q (Longer z (cut (c + c + c) c rows))) (row_at c 0 c 0 rows i.whole (omega arith) (omega arith) (omega arith))
      (subst (λ z. Decides q (Longer (between 0 c rows) z)) (row_at c (c + c + c) (c + c + c + c) (c + c + c) rows i.whole (omega arith) (omega arith) (omega arith)) l))
