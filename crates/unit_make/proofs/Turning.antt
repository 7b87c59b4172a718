-- One multiplication: the opened field meets what `unit_rows::multiply_by_m` asks, and what it hands out is the exact division of E M by U.
--   monic_part       the row U of a record ends in 1
--   turn_in          what `turn` asks
--   multiplies       what it hands out
use mathlib.Core.Path.{◌≡◌, sym, ap, ap₂, ◌∙◌}
use mathlib.Core.List.{List}
use Prim.Native.Nat.{ℕ, zero, suc, ◌+◌, ◌*◌, ◌-◌, ◌<◌, ◌≤◌}
use native.Mathlib.Omega.{arith}
use lib.ListN.{length, get_or}
use Rattle.math_valued.specs.Degree.{Leads}
use Rattle.math_valued.proofs.Degree.{has_not_zero, has_eq}
use Rattle.math_valued.proofs.Compare.{leads_unique}
use Rattle.math_rows.specs.Reading.{Reading}
use Rattle.math_rows.specs.Made.{reading}
use Rattle.math_rows.specs.Row.{Size, row}
use Rattle.math_rows.proofs.Tab.{zeros_at}
use Rattle.math_rows.proofs.Rows.{size_lead}
use Rattle.math_rows.proofs.Floors.{zero_row}
use Rattle.math_rows.proofs.Unique.{cast_inj}
use Rattle.field_open.specs.Refusal.{Accepted}
use Rattle.math_ideals.proofs.Sizes.{sc_a, sc_b, sc_c}
use Rattle.basis_record.specs.Record.{setting, basis_of, IsRecord}
use Rattle.field_series.specs.declared.OpenedField.{OpenedField}
use Rattle.basis_field.proofs.Keeps.{g_row, h_row, gh_row, holds_of}
use Rattle.unit_rows.specs.Six.{cut, Monic, MultiplyByMAsks, Turn}
use Rattle.unit_finish.proofs.Rows.{cut_below}
use Rattle.unit_finish.proofs.Stored.{storable, list_top, six_path}
use Rattle.unit_make.specs.Making.{Blank, MultipliedAsks, Multiplies}

-- ---- leading coefficients of lists
module _ {p : ℕ} (ρ : Reading p) (l : List ℕ) (each : (i : ℕ) → get_or l i 0 < p) where
  open ρ use {𝓥}

  pub list_monic : 1 < p → Leads 𝓥 (row ρ l) 𝓥.K.ops.𝟏 → Monic l
  list_monic big h zero s = absurd (has_not_zero 𝓥 (has_eq 𝓥 (𝓥.K.ops.𝟏, h.2, h.3) (zero_row ρ l s)))
  list_monic big h (suc m) s = (
    omega arith,
    ap (λ k. get_or l k 0) (let o : suc m - 1 ≡ m = omega arith in o) ∙ cast_inj ρ (get_or l m 0) 1 (each m) big (leads_unique 𝓥 (m, 0, list_top ρ l each m s, size_lead ρ s) h ∙ sym ρ.cast_one),
  )

pub monic_part : {p : ℕ} {G H : List ℕ} (A : Accepted p G H) (b : List ℕ) → IsRecord p G H b → Monic (cut 102 17 b)
monic_part {p} A b h = list_monic (reading p A.prime) (cut 102 17 b) (cut_below 102 17 b h.each) (let l : 5 ≤ p = A.low in omega arith) (h.good A).scaled.monic

pub blank_at : (s : List ℕ) → Blank s → (i : ℕ) → get_or s i 0 ≡ 0
blank_at s e i = ap (λ l. get_or l i 0) e ∙ zeros_at (length s) i

module _ (f : OpenedField) (c n : ℕ) (b rows s g h gh : List ℕ) (eg : g ≡ f.field.g) (eh : h ≡ f.field.h) (egh : gh ≡ f.field.gh) where
  pub turn_in : MultipliedAsks f c n b rows s → MultiplyByMAsks f.field.p c n g h gh b rows s
  turn_in i = let k = i.known.kept in
      let w : length rows ≡ 6 * c = i.space.whole in
      let v : length s ≡ length rows = i.space.even in
      record {
        times = record {
          modulus = storable k.accepted;
          g_most = (let o : length g ≡ 32 = ap length eg ∙ (g_row k).size in omega arith);
          h_most = (let o : length h ≡ 32 = ap length eh ∙ (h_row k).size in omega arith);
          gh_most = (let o : length gh ≡ 32 = ap length egh ∙ (gh_row k).size in omega arith);
          b_size = i.is_a_record.size;
          monic = monic_part k.accepted b i.is_a_record;
          most = i.space.most;
          upto = i.upto;
          e_room = omega arith;
          s_room = omega arith;
          blank = blank_at s i.blank;
        };
      }

  pub multiplies : (rows' s' : List ℕ) → length rows ≡ 6 * c → Turn f.field.p c n g h gh b rows s rows' s' → Multiplies f c n b rows s rows' s'
  multiplies rows' s' w t = record {
    size = t.size;
    blank = t.blank;
    each = t.each;
    rest = t.rest;
    law = λ G H A pre E' fit e.
        let S = setting A in let ρ = reading f.field.p A.prime in let o = ρ.𝓥.L.ops in
        let k = holds_of pre A in
        let M = (basis_of A b).M in
        let y₁ : row ρ (cut (0 + c) c rows) ≡ row ρ (cut c c rows) = ap (λ k. row ρ (cut k c rows)) (let q : 0 + c ≡ c = omega arith in q) in
        let y₂ : row ρ (cut (0 + c + c) c rows) ≡ row ρ (cut (c + c) c rows) = ap (λ k. row ρ (cut k c rows)) (let q : 0 + c + c ≡ c + c = omega arith in q) in
        let E = row ρ (cut 0 c rows) in
        let (x, y, z) = t.law A.prime E'.a.0 E'.b.0 E'.c.0 E'.a.1 E'.b.1 E'.c.1 fit.a_lt fit.b_lt fit.c_lt
        (sym (sc_a S (basis_of A b).U E') ∙ ap (λ v. v.a.0) (sym e)
        ∙ ap₂ (λ u v. o.add (o.mul E M.a.0) (o.mul (o.add (o.mul u M.c.0) (o.mul v M.b.0)) (o.mul S.roots.G.0 S.roots.H.0))) y₁ y₂
        ∙ ap (λ v. o.add (o.mul E M.a.0) (o.mul (o.add (o.mul (row ρ (cut c c rows)) M.c.0) (o.mul (row ρ (cut (c + c) c rows)) M.b.0)) v)) (sym (ap (row ρ) egh ∙ k.gh_is)))
        (sym (sc_b S (basis_of A b).U E') ∙ ap (λ v. v.b.0) (sym e)
        ∙ ap₂ (λ u v. o.add (o.add (o.mul E M.b.0) (o.mul u M.a.0)) (o.mul (o.mul v M.c.0) S.roots.G.0)) y₁ y₂
        ∙ ap (λ v. o.add (o.add (o.mul E M.b.0) (o.mul (row ρ (cut c c rows)) M.a.0)) (o.mul (o.mul (row ρ (cut (c + c) c rows)) M.c.0) v)) (sym (ap (row ρ) eg ∙ k.g_is)))
        (sym (sc_c S (basis_of A b).U E') ∙ ap (λ v. v.c.0) (sym e)
        ∙ ap₂ (λ u v. o.add (o.add (o.mul E M.c.0) (o.mul v M.a.0)) (o.mul (o.mul u M.b.0) S.roots.H.0)) y₁ y₂
        ∙ ap (λ v. o.add (o.add (o.mul E M.c.0) (o.mul (row ρ (cut (c + c) c rows)) M.a.0)) (o.mul (o.mul (row ρ (cut c c rows)) M.b.0) v)) (sym (ap (row ρ) eh ∙ k.h_is))) in
        six_path A c 0 rows' E' x (ap (λ k. row ρ (cut k c rows')) (let q : 0 + c ≡ c = omega arith in q) ∙ y) (ap (λ k. row ρ (cut k c rows')) (let q : 0 + c + c ≡ c + c = omega arith in q) ∙ z);
  }
