-- Crates basis_lattice and poly_content.
--   lengths_of_unique     the lengths of seven rows, and e
--   coordinates_unique    the coordinates of an element that has some, and their lengths
--   member_unique         an element lies in the lattice or does not
--   taken_off_unique      four polynomials without their common factor: decides_unique up to one constant
use mathlib.Core.Path.{◌≡◌, sym, ap, ◌∙◌}
use mathlib.Core.Bool.{Bool}
use mathlib.Core.List.{List, [], ◌∷◌}
use Prim.Native.Nat.{ℕ}
use Prim.Native.Nat as N
use native.Mathlib.Omega.{arith}
use Rattle.num_mod.specs.declared.Modulus.{Modulus}
use Rattle.math_fp.specs.Fp.{Prime}
use Rattle.math_valued.specs.Polynomial.{polys, Poly, Divides, IsUnit}
use Rattle.math_valued.proofs.Degree.{has_move}
use Rattle.math_valued.proofs.Divide.{p_cancel}
use Rattle.math_valued.proofs.Gcds.{gcds, comb_divides}
use Rattle.math_valued.proofs.Polynomial.{factor, const_unit}
use Rattle.math_rows.specs.Made.{reading}
use Rattle.poly_rows.specs.Polynomial.{polynomial}
use Rattle.poly_content.specs.Common.{Four, Without}
use Rattle.base_answers.proofs.Tests.{decides_unique}
use Rattle.basis_record.specs.Seven.{Three}
use Rattle.basis_record.specs.declared.Seven.{Seven}
use Rattle.basis_lattice.specs.Coordinates.{LengthsOfAsks, Found, CoordinatesAsks, Coordinates}
use Rattle.basis_lattice.specs.Lattice.{MemberAsks, Member, MemberAt}
use Rattle.basis_lattice.specs.declared.Lengths.{Lengths}
use Rattle.basis_lattice.specs.declared.Spans.{Spans}
use Rattle.demands_inner.proofs.Rows.{by_row}
use Rattle.demands_inner.proofs.Poly.{size_unique}
use Rattle.demands_inner.proofs.Sized.{both, det_at}

pub lengths_of_unique : {M : Modulus} {cap : ℕ} {b : Seven} {z e e' : List ℕ} {l l' : Lengths} → LengthsOfAsks M cap b z → Found M.p b e l → Found M.p b e' l' → (e ≡ e') × (l ≡ l')
lengths_of_unique i f g =
    let (x, y) = det_at i.prime f.det g.det in
    let same : (i : ℕ) → _ = λ i. size_unique (f.sizes i) (g.sizes i) in
    (x, λ i. record { m0 = same 0 i; m1 = same 1 i; m2 = same 2 i; n0 = same 3 i; n1 = same 4 i; n2 = same 5 i; u = same 6 i; e = y i })

pub coordinates_unique : {M : Modulus} {va : List ℕ} {na : ℕ} {vb : List ℕ} {nb : ℕ} {vc : List ℕ} {nc : ℕ} {b : Seven} {l : Lengths} {e : List ℕ} {ie : ℕ} {z t t' : Three} {v v' : List ℕ} {o o' : Spans}
    → CoordinatesAsks M va na vb nb vc nc b l e ie z → Coordinates M.p va vb vc b e t v o → Coordinates M.p va vb vc b e t' v' o' → (t ≡ t') × (v ≡ v') × (o ≡ o')
coordinates_unique {M} i h k =
    let ρ = reading M.p i.inp.prime in
    let (ha, hb, hc, hv) = h.law i.inp.prime i.α i.β i.γ i.some in
    let (ka, kb, kc, kv) = k.law i.inp.prime i.α i.β i.γ i.some in
    let (a, la) = both (by_row ρ h.spans.ha k.spans.ha ha ka) h.spans.sa k.spans.sa in
    let (b, lb) = both (by_row ρ h.spans.hb k.spans.hb hb kb) h.spans.sb k.spans.sb in
    let (c, lc) = both (by_row ρ h.spans.hc k.spans.hc hc kc) h.spans.sc k.spans.sc in
    ((λ i. record { a = a i; b = b i; c = c i }), by_row ρ h.is_row k.is_row hv kv, (λ i. record { a = la i; b = lb i; c = lc i }))

pub member_unique : {M : Modulus} {va : List ℕ} {na : ℕ} {vb : List ℕ} {nb : ℕ} {vc : List ℕ} {nc : ℕ} {b : Seven} {l : Lengths} {e : List ℕ} {ie : ℕ} (o o' : Bool)
    → MemberAsks M va na vb nb vc nc b l e ie → Member M.p va vb vc b e o → Member M.p va vb vc b e o' → o ≡ o'
member_unique {va = va} {vb = vb} {vc = vc} {b = b} {e = e} o o' i h k = decides_unique o o' (MemberAt i.inp.prime va vb vc b e) (h i.inp.prime) (k i.inp.prime)

-- ---- without the common factor
pub record Multiples {p : ℕ} (pr : Prime p) (o o' : Four) : Type 0 where
  pub cut : o.cut ≡ o'.cut
  pub v : Poly (reading p pr).𝓥
  pub unit : IsUnit (reading p pr).𝓥 v
  pub a0 : polynomial p pr o.a0 ≡ (polys (reading p pr).𝓥).ops.mul v (polynomial p pr o'.a0)
  pub a2 : polynomial p pr o.a2 ≡ (polys (reading p pr).𝓥).ops.mul v (polynomial p pr o'.a2)
  pub b0 : polynomial p pr o.b0 ≡ (polys (reading p pr).𝓥).ops.mul v (polynomial p pr o'.b0)
  pub b2 : polynomial p pr o.b2 ≡ (polys (reading p pr).𝓥).ops.mul v (polynomial p pr o'.b2)
  pub d : polynomial p pr o.d ≡ (polys (reading p pr).𝓥).ops.mul v (polynomial p pr o'.d)

module _ {p : ℕ} (pr : Prime p) {x0 x2 y0 y2 : List ℕ} where
  -- what divides the four divides their common factor
  greatest : (o o' : Four) (w : Without p pr x0 x2 y0 y2 o) (w' : Without p pr x0 x2 y0 y2 o') → Divides (reading p pr).𝓥 w'.g w.g
  greatest o o' w w' =
      let 𝓥 = (reading p pr).𝓥 in
      let R = polys 𝓥 in
      let P = polynomial p pr in
      let four = P o.a0 ∷ P o.a2 ∷ P o.b0 ∷ P o.b2 ∷ [] in
      let (h, comb, (e₁, (e₂, (e₃, (e₄, t))))) = gcds 𝓥 four in
      let (h', unit) = w.alone h e₁ e₂ e₃ e₄ in
      let (q, e) = comb_divides 𝓥 w'.g w.g four h comb
      ((P o'.a0, sym w.x0_eq ∙ w'.x0_eq), ((P o'.a2, sym w.x2_eq ∙ w'.x2_eq), ((P o'.b0, sym w.y0_eq ∙ w'.y0_eq), ((P o'.b2, sym w.y2_eq ∙ w'.y2_eq), tt)))) in
      (R.ops.mul q h', sym (R.laws.mul-one w.g) ∙ ap (λ t. R.ops.mul w.g t) unit ∙ sym (R.laws.mul_assoc w.g h h') ∙ ap (λ t. R.ops.mul t h') e ∙ R.laws.mul_assoc w'.g q h')

  pub taken_off_unique : (o o' : Four) → Without p pr x0 x2 y0 y2 o → Without p pr x0 x2 y0 y2 o' → Multiples pr o o'
  taken_off_unique o o' w w' =
      let 𝓥 = (reading p pr).𝓥 in
      let R = polys 𝓥 in
      let (v, e) = greatest o' o w' w in
      let (u, f) = greatest o o' w w' in
      let (i, hv, ei) = factor 𝓥 w.g v w'.g w.g_has w'.g_has e in
      let (j, hu, ej) = factor 𝓥 w'.g u w.g w'.g_has w.g_has f in
      let same : o.cut ≡ o'.cut = omega (arith, ei, ej) in
      let z : i ≡ 0 = omega (arith, ei, ej) in
      let part : (x a a' : Poly 𝓥) → x ≡ R.ops.mul w.g a → x ≡ R.ops.mul w'.g a' → a ≡ R.ops.mul v a' =
      λ x a a' h k. p_cancel 𝓥 w.g a (R.ops.mul v a') w.g_has (sym h ∙ k ∙ ap (λ t. R.ops.mul t a') e ∙ R.laws.mul_assoc w.g v a') in record {
        cut = same;
        v = v;
        unit = const_unit 𝓥 v (has_move 𝓥 0 0 hv (ap (λ t. N.◌+◌ t 0) z));
        a0 = part _ _ _ w.x0_eq w'.x0_eq;
        a2 = part _ _ _ w.x2_eq w'.x2_eq;
        b0 = part _ _ _ w.y0_eq w'.y0_eq;
        b2 = part _ _ _ w.y2_eq w'.y2_eq;
        d = part _ _ _ w.d_eq w'.d_eq;
      }
