-- The inverse from the cofactor: the opened field meets what `unit_inverse::invert` asks, and what it hands out is cof(E)/N(E).
--   invert_in        what `invert` asks
--   inverses         what it hands out
use mathlib.Core.Path.{◌≡◌, sym, ap, ap₂, ◌∙◌, subst}
use mathlib.Core.Logic.{◌≢◌}
use mathlib.Core.List.{List}
use Prim.Native.Nat.{ℕ, ◌+◌, ◌*◌, ◌-◌, ◌≤◌}
use native.Mathlib.Omega.{arith}
use lib.ListN.{length}
use Rattle.math_fp.specs.Fp.{Prime}
use Rattle.math_triple.specs.Tri.{norm_t, cof_t}
use Rattle.math_valued.specs.Degree.{Lt}
use Rattle.math_valued.proofs.Polynomial.{unit_const, const_path}
use Rattle.math_rows.specs.Reading.{Reading}
use Rattle.math_rows.specs.Made.{reading}
use Rattle.math_rows.specs.Row.{row}
use Rattle.field_open.specs.Refusal.{Accepted}
use Rattle.field_open.proofs.Accept.{with_prime}
use Rattle.math_ideals.specs.Element.{O, sc, norm, cof}
use Rattle.math_ideals.proofs.Sizes.{sc_a, sc_b, sc_c}
use Rattle.basis_record.specs.Record.{setting}
use Rattle.field_series.specs.declared.OpenedField.{OpenedField}
use Rattle.field_series.specs.Keeps.{Keeps}
use Rattle.basis_field.proofs.Keeps.{modulus}
use Rattle.basis_field.proofs.Keeps as keeps
use Rattle.poly_rows.specs.Leaf.{Given, Opposite}
use Rattle.poly_long.specs.Long.{Stored}
use Rattle.unit_rows.specs.Six.{cut}
use Rattle.unit_rows.proofs.Multiply.{cut_same}
use Rattle.unit_inverse.specs.Inverse.{element, InvertAsks, Inverted}
use Rattle.unit_finish.specs.Rows.{six}
use Rattle.unit_finish.specs.Finish.{InvertedAsks, Inverses}
use Rattle.unit_finish.proofs.Stored.{storable, row_stored, six_path}

-- - G H
pub minus_in : {p : ℕ} {G H g h gh : List ℕ} {dr dw : ℕ} {r w : List ℕ} → Keeps p G H g h gh dr dw r w → Given p gh
minus_in k = record { modulus = modulus k; prime = k.accepted.prime; hx = keeps.gh_row k }

pub stored_minus : {p : ℕ} {G H x m : List ℕ} → Accepted p G H → Opposite p x m → Stored m
stored_minus A o = row_stored (storable A) o.is_row

module _ (f : OpenedField) (c k : ℕ) (rows s g h gh m ngh : List ℕ) (eg : g ≡ f.field.g) (eh : h ≡ f.field.h) (egh : gh ≡ f.field.gh) (em : ngh ≡ m) (opposite : Opposite f.field.p f.field.gh m) where
  module _ (i : InvertedAsks f c k rows s) where
    abbrev p : ℕ
    p = f.field.p

    abbrev A : Accepted p i.known.G i.known.H
    A = i.known.kept.accepted

    module _ (pr : Prime p) where
      abbrev A' : Accepted p i.known.G i.known.H
      A' = with_prime A pr

      abbrev ρ : Reading p
      ρ = reading p pr

      g_row : row ρ g ≡ row ρ i.known.G
      g_row = ap (row ρ) eg ∙ (keeps.holds_of i.known.kept A').g_is

      h_row : row ρ h ≡ row ρ i.known.H
      h_row = ap (row ρ) eh ∙ (keeps.holds_of i.known.kept A').h_is

      gh_row : row ρ gh ≡ ρ.𝓥.L.ops.mul (row ρ g) (row ρ h)
      gh_row = ap (row ρ) egh ∙ (keeps.holds_of i.known.kept A').gh_is ∙ sym (ap₂ ρ.𝓥.L.ops.mul g_row h_row)

      ngh_row : row ρ ngh ≡ ρ.𝓥.L.ops.neg (row ρ gh)
      ngh_row = ap (row ρ) em ∙ opposite.law pr ∙ ap (λ z. ρ.𝓥.L.ops.neg (row ρ z)) (sym egh)

      cof_is : cof_t ρ.𝓥.L.ops (row ρ i.known.G) (row ρ i.known.H) (element ρ 0 c rows) ≡ cof_t ρ.𝓥.L.ops (row ρ g) (row ρ h) (element ρ 0 c rows)
      cof_is = ap₂ (λ x y. cof_t ρ.𝓥.L.ops x y (element ρ 0 c rows)) (sym g_row) (sym h_row)

      constant : (κ : ρ.𝓥.K.El) × (κ ≢ ρ.𝓥.K.ops.𝟎) × (norm_t ρ.𝓥.L.ops (row ρ g) (row ρ h) (element ρ 0 c rows) ≡ ρ.𝓥.const κ)
      constant =
          let (κ, n, l) = unit_const ρ.𝓥 (norm (setting A') (six A' c 0 rows)) (i.unit A') in (
            κ,
            n,
            ap₂ (λ x y. norm_t ρ.𝓥.L.ops x y (element ρ 0 c rows)) g_row h_row ∙ ap (λ z. z.0) (const_path ρ.𝓥 {a = norm (setting A') (six A' c 0 rows)} {b = (ρ.𝓥.const κ, ρ.𝓥.const_poly κ)} l (ρ.𝓥.const_lead κ)),
          )

    pub invert_in : InvertAsks f.field.p c k g h gh ngh rows s
    invert_in = record {
      modulus = storable A;
      most = i.space.most;
      upto = i.upto;
      g_most = (let o : length g ≡ 32 = ap length eg ∙ (keeps.g_row i.known.kept).size in omega arith);
      h_most = (let o : length h ≡ 32 = ap length eh ∙ (keeps.h_row i.known.kept).size in omega arith);
      gh_most = (let o : length gh ≡ 32 = ap length egh ∙ (keeps.gh_row i.known.kept).size in omega arith);
      ngh_most = (let o : length ngh ≡ 32 = ap length em ∙ opposite.is_row.size in omega arith);
      room = (let w : length rows ≡ 6 * c = i.space.whole in omega arith);
      s_room = i.space.even;
      each = i.each;
      blank = i.rest;
      gh_is = gh_row;
      ngh_is = ngh_row;
      a_fits = λ pr. subst (λ v. Lt (ρ pr).𝓥 v.a k) (cof_is pr) (i.fits (A' pr)).a_lt;
      b_fits = λ pr. subst (λ v. Lt (ρ pr).𝓥 v.b k) (cof_is pr) (i.fits (A' pr)).b_lt;
      c_fits = λ pr. subst (λ v. Lt (ρ pr).𝓥 v.c k) (cof_is pr) (i.fits (A' pr)).c_lt;
      constant = constant;
    }

  pub inverses : (rows' s' : List ℕ) → Inverted f.field.p c g h rows s rows' s' → Inverses f c rows s rows' s'
  inverses rows' s' t = record {
    size = t.size;
    blank = t.blank;
    each = t.each;
    law = λ G H A pre ν e.
        let S = setting A in let ρ = reading f.field.p A.prime in let o = ρ.𝓥.L.ops in
        let hold = keeps.holds_of pre A in
        let eG : row ρ g ≡ row ρ G = ap (row ρ) eg ∙ hold.g_is in
        let eH : row ρ h ≡ row ρ H = ap (row ρ) eh ∙ hold.h_is in
        let C = cof S (six A c 0 rows) in
        let cs : cof_t o (row ρ g) (row ρ h) (element ρ 0 c rows) ≡ cof_t o (row ρ G) (row ρ H) (element ρ 0 c rows) = ap₂ (λ x y. cof_t o x y (element ρ 0 c rows)) eG eH in
        let (x, y, z) = t.law A.prime ν.0 (ap₂ (λ u v. o.mul (norm_t o u v (element ρ 0 c rows)) ν.0) eG eH ∙ sym (ap (λ v. v.0) e)) in
        let same : (at : ℕ) → at + c ≤ c + c + c → row ρ (cut at c rows') ≡ row ρ (cut at c rows) = (λ at l. ap (row ρ) (cut_same at c rows' rows (λ j u. t.before (at + j) (omega arith)))) in (
          six_path A c 0 rows' (six A c 0 rows) (same 0 (omega arith)) (same (0 + c) (omega arith)) (same (0 + c + c) (omega arith)),
          six_path A c (c + c + c) rows' ((O S).ops.mul (sc S ν) C)
              (x ∙ ap (λ v. o.mul ν.0 v.a) cs ∙ sym (sc_a S ν C))
              (y ∙ ap (λ v. o.mul ν.0 v.b) cs ∙ sym (sc_b S ν C))
              (z ∙ ap (λ v. o.mul ν.0 v.c) cs ∙ sym (sc_c S ν C)),
        );
  }
