-- The common factor of four polynomials, and the four without it.
--   content_unit, content_of   what a chain of greatest common divisors is
--   cut_none, cut_some         the four and their determinant over it
use mathlib.Core.Path.{◌≡◌, sym, ap, ap₂, ◌∙◌, subst}
use mathlib.Core.Logic.{◌≢◌}
use mathlib.Core.List.{List, [], ◌∷◌}
use Prim.Native.Nat.{ℕ, zero, suc, ◌*◌, ◌-◌, ◌%◌, ◌<◌}
use native.Mathlib.Nat.{mul_comm}
use native.Mathlib.Omega.{arith}
use lib.ListN.{get_or}
use Rattle.math_ring.proofs.Laws as rg
use Rattle.math_ring.proofs.Solve.{var, hyp, one, minus, ◌:+◌, ◌:*◌, solve_by}
use Rattle.math_fp.specs.Fp.{Prime}
use Rattle.math_valued.specs.Val.{Valued}
use Rattle.math_valued.specs.Degree.{Has}
use Rattle.math_valued.specs.Polynomial.{polys, Poly, Divides, IsUnit}
use Rattle.math_valued.proofs.Degree as d
use Rattle.math_valued.proofs.Divide.{p_cancel}
use Rattle.math_valued.proofs.Gcds.{divides_trans}
use Rattle.math_valued.proofs.Polynomial.{P_path}
use Rattle.math_valued.proofs.Coprime.{gcd_greatest, zero_divides}
use Rattle.num_power.specs.Powers.{Nonzero, Inverse}
use Rattle.math_rows.specs.Made.{reading}
use Rattle.math_rows.specs.Row.{Row, Size, row}
use Rattle.math_rows.proofs.Rows.{size_has}
use Rattle.math_rows.proofs.Floors.{zero_row}
use Rattle.poly_rows.specs.Division.{DivisionAsks, Exact}
use Rattle.poly_rows.specs.Polynomial.{polynomial}
use Rattle.poly_euclid.specs.Euclid.{Common}
use Rattle.poly_euclid.proofs.Turns.{size_unit}
use Rattle.poly_lent.specs.Sized.{DetInGives}
use Rattle.poly_rows.proofs.Leaf.{size_unique}
use Rattle.poly_content.specs.Common.{Content, Four, four_det, CutAsks, CutOff}

unit_divides : (𝓥 : Valued) (u a : Poly 𝓥) → IsUnit 𝓥 u → Divides 𝓥 u a
unit_divides 𝓥 u a (v, e) = ((polys 𝓥).ops.mul v a, solve_by (polys 𝓥) (var 2) (var 0 :* (var 1 :* var 2)) (hyp (var 2) one (var 0 :* var 1) ∷ []) tt (u ∷ v ∷ a ∷ []) (e, tt))

pub content_unit : (p : ℕ) (x0 x2 y0 y2 g : List ℕ) (n : ℕ) → Common p x2 y2 g → Size g n → n ≡ 1 → Content p x0 x2 y0 y2 g
content_unit p x0 x2 y0 y2 g n h z e = let s : Size g 1 = subst (Size g) e z in record {
  is_row = h.is_row;
  divides = λ pr. let u = size_unit p pr g h.is_row s in
      (unit_divides (reading p pr).𝓥 _ _ u, unit_divides (reading p pr).𝓥 _ _ u, unit_divides (reading p pr).𝓥 _ _ u, unit_divides (reading p pr).𝓥 _ _ u);
  most = λ pr d a b c e. gcd_greatest (reading p pr).𝓥 d (h.law pr) b e;
}

pub content_of : (p : ℕ) (x0 x2 y0 y2 g k r : List ℕ) → Common p x2 y2 g → Common p g y0 k → Common p k x0 r → Content p x0 x2 y0 y2 r
content_of p x0 x2 y0 y2 g k r h₁ h₂ h₃ = record {
  is_row = h₃.is_row;
  divides = λ pr. let 𝓥 = (reading p pr).𝓥 in
      let rk = (h₃.law pr).left in
      let rg = divides_trans 𝓥 _ _ _ rk (h₂.law pr).left in
      ((h₃.law pr).right, divides_trans 𝓥 _ _ _ rg (h₁.law pr).left, divides_trans 𝓥 _ _ _ rk (h₂.law pr).right, divides_trans 𝓥 _ _ _ rg (h₁.law pr).right);
  most = λ pr d a b c e. let 𝓥 = (reading p pr).𝓥 in gcd_greatest 𝓥 d (h₃.law pr) (gcd_greatest 𝓥 d (h₂.law pr) (gcd_greatest 𝓥 d (h₁.law pr) b e) c) a;
}

module _ {p : ℕ} {x0 x2 y0 y2 k f : List ℕ} (c : CutAsks p x0 x2 y0 y2) (h : Content p x0 x2 y0 y2 k) {l : ℕ} (df : DetInGives p x2 y0 x0 y2 f l) where
  -- the determinant is not 0, so the common factor is not
  pub content_pos : (n : ℕ) → Size k n → 0 < n
  content_pos zero s = absurd (c.nz (
      let pr = c.rows.prime in
      let 𝓥 = (reading p pr).𝓥 in
      let z = zero_row (reading p pr) k s in
      let (a0, a2, b0, b2) = h.divides pr in
      let o = 𝓥.L.ops in
      ap₂ (λ u v. o.add (o.mul u (row (reading p pr) y0)) (o.neg (o.mul v (row (reading p pr) y2)))) (zero_divides 𝓥 _ _ z a2) (zero_divides 𝓥 _ _ z a0)
      ∙ ap₂ (λ u v. o.add u (o.neg v)) (rg.zero_mul' 𝓥.L (row (reading p pr) y0)) (rg.zero_mul' 𝓥.L (row (reading p pr) y2)) ∙ 𝓥.L.laws.add_neg o.𝟎))
  content_pos (suc n) s = omega arith

  pub content_lead : {n : ℕ} → Size k n → Nonzero p (get_or k (n - 1) 0)
  content_lead {n} s = record {
    modulus = c.rows.modulus;
    prime = c.rows.prime;
    pos = (let e : get_or k (n - 1) 0 ≢ 0 = s.top (content_pos n s) in omega (arith, e));
    below = h.is_row.each (n - 1);
  }

  -- division by it
  pub by_content : {n il : ℕ} → Size k n → Inverse p (get_or k (n - 1) 0) il → (x : List ℕ) → Row p x → DivisionAsks p x k il
  by_content {n} {il} s i x r = record {
    modulus = c.rows.modulus;
    prime = c.rows.prime;
    ha = r;
    hb = h.is_row;
    hi = i.below;
    inv = λ m t. ap (λ j. (il * get_or k (j - 1) 0) % p) (size_unique t s) ∙ ap (λ z. z % p) (mul_comm il (get_or k (n - 1) 0)) ∙ i.law;
  }

  -- f is the determinant
  f_is : (pr : Prime p) → polynomial p pr f ≡ four_det p pr x0 x2 y0 y2
  f_is pr = P_path (reading p pr).𝓥 {a = polynomial p pr f} {b = four_det p pr x0 x2 y0 y2} (df.law pr)

  pub cut_none : (n : ℕ) (o : Four) → Size k n → n ≡ 1 → o.a0 ≡ x0 → o.a2 ≡ x2 → o.b0 ≡ y0 → o.b2 ≡ y2 → o.d ≡ f → o.cut ≡ 0 → CutOff p x0 x2 y0 y2 o
  cut_none n o z e e0 e2 g0 g2 ed ec = let s : Size k 1 = subst (Size k) e z in record {
    h0 = subst (Row p) (sym e0) c.rows.h0;
    h2 = subst (Row p) (sym e2) c.rows.h2;
    k0 = subst (Row p) (sym g0) c.rows.k0;
    k2 = subst (Row p) (sym g2) c.rows.k2;
    hd = subst (Row p) (sym ed) df.is_row;
    law = λ pr. let 𝓥 = (reading p pr).𝓥 in let R = polys 𝓥 in record {
      g = R.ops.𝟏;
      g_has = subst (Has 𝓥 𝓥.L.ops.𝟏) (sym ec) (d.has_one 𝓥);
      x0_eq = ap (polynomial p pr) (sym e0) ∙ sym (rg.one-mul R _);
      x2_eq = ap (polynomial p pr) (sym e2) ∙ sym (rg.one-mul R _);
      y0_eq = ap (polynomial p pr) (sym g0) ∙ sym (rg.one-mul R _);
      y2_eq = ap (polynomial p pr) (sym g2) ∙ sym (rg.one-mul R _);
      d_eq = sym (f_is pr) ∙ ap (polynomial p pr) (sym ed) ∙ sym (rg.one-mul R _);
      alone = λ z a0 a2 b0 b2. divides_trans 𝓥 z (polynomial p pr k) R.ops.𝟏
          (h.most pr z (subst (λ l. Divides 𝓥 z (polynomial p pr l)) e0 a0) (subst (λ l. Divides 𝓥 z (polynomial p pr l)) e2 a2)
          (subst (λ l. Divides 𝓥 z (polynomial p pr l)) g0 b0) (subst (λ l. Divides 𝓥 z (polynomial p pr l)) g2 b2))
          (size_unit p pr k h.is_row s);
    };
  }

  -- an exact quotient by the common factor
  over : (pr : Prime p) (x q : List ℕ) → Exact p x k q → Divides (reading p pr).𝓥 (polynomial p pr k) (polynomial p pr x)
      → polynomial p pr x ≡ (polys (reading p pr).𝓥).ops.mul (polynomial p pr k) (polynomial p pr q)
  over pr x q hq (w, e) = e ∙ ap (λ z. (polys (reading p pr).𝓥).ops.mul (polynomial p pr k) z)
      (sym (P_path (reading p pr).𝓥 {a = polynomial p pr q} {b = w} (hq.law pr w.0 w.1 (sym (ap (λ z. z.0) e)))))

  -- it divides the determinant
  divides_f : (pr : Prime p) → Divides (reading p pr).𝓥 (polynomial p pr k) (polynomial p pr f)
  divides_f pr =
      let R = polys (reading p pr).𝓥 in
      let ((q0, e0), (q2, e2), b0, b2) = h.divides pr in
      let P = polynomial p pr in (
        R.ops.add (R.ops.mul q2 (P y0)) (R.ops.neg (R.ops.mul q0 (P y2))),
        f_is pr ∙ solve_by R (var 0 :* var 1 :+ minus (var 2 :* var 3)) (var 4 :* (var 5 :* var 1 :+ minus (var 6 :* var 3)))
            (hyp (var 1) (var 0) (var 4 :* var 5) ∷ hyp (minus (var 3)) (var 2) (var 4 :* var 6) ∷ []) tt
            (P x2 ∷ P y0 ∷ P x0 ∷ P y2 ∷ P k ∷ q2 ∷ q0 ∷ []) (e2, (e0, tt)),
      )

  pub cut_some : {n : ℕ} (o : Four) → Size k n → Exact p x0 k o.a0 → Exact p x2 k o.a2 → Exact p y0 k o.b0 → Exact p y2 k o.b2 → Exact p f k o.d → o.cut ≡ n - 1
      → CutOff p x0 x2 y0 y2 o
  cut_some {n} o s a0 a2 b0 b2 df' ec = record {
    h0 = a0.is_row;
    h2 = a2.is_row;
    k0 = b0.is_row;
    k2 = b2.is_row;
    hd = df'.is_row;
    law = λ pr.
        let 𝓥 = (reading p pr).𝓥 in
        let R = polys 𝓥 in
        let (d0, d2, c0, c2) = h.divides pr in
        let e0 = over pr x0 o.a0 a0 d0 in
        let e2 = over pr x2 o.a2 a2 d2 in
        let f0 = over pr y0 o.b0 b0 c0 in
        let f2 = over pr y2 o.b2 b2 c2 in
        let g_has : Has 𝓥 (polynomial p pr k).0 (n - 1) = has_at pr n s in
        record {
          g = polynomial p pr k;
          g_has = subst (Has 𝓥 (polynomial p pr k).0) (sym ec) g_has;
          x0_eq = e0;
          x2_eq = e2;
          y0_eq = f0;
          y2_eq = f2;
          d_eq = sym (f_is pr) ∙ over pr f o.d df' (divides_f pr);
          alone = λ z a0 a2 b0 b2.
              let (q, e) = h.most pr (R.ops.mul (polynomial p pr k) z) (more pr z e0 a0) (more pr z e2 a2) (more pr z f0 b0) (more pr z f2 b2) in
              (q, p_cancel 𝓥 (polynomial p pr k) R.ops.𝟏 (R.ops.mul z q) g_has (R.laws.mul-one _ ∙ e ∙ R.laws.mul_assoc _ _ _));
        };
  }
    where
      has_at : (pr : Prime p) (n : ℕ) → Size k n → Has (reading p pr).𝓥 (polynomial p pr k).0 (n - 1)
      has_at pr zero s = absurd (let l : 0 < 0 = content_pos 0 s in omega arith)
      has_at pr (suc n) s = subst (Has (reading p pr).𝓥 (polynomial p pr k).0) (let e : n ≡ suc n - 1 = omega arith in e) (size_has (reading p pr) h.is_row s)

      more : (pr : Prime p) (z : Poly (reading p pr).𝓥) {x q : Poly (reading p pr).𝓥} → x ≡ (polys (reading p pr).𝓥).ops.mul (polynomial p pr k) q → Divides (reading p pr).𝓥 z q
          → Divides (reading p pr).𝓥 ((polys (reading p pr).𝓥).ops.mul (polynomial p pr k) z) x
      more pr z e (w, f) = let R = polys (reading p pr).𝓥 in (w, e ∙ ap (λ t. R.ops.mul (polynomial p pr k) t) f ∙ sym (R.laws.mul_assoc _ _ _))
