-- What computes on lists holds of polynomials, and of the triples of a cubic order.
--   poly_hom                   lists as polynomials
--   el, el_hom                 triples of lists as triples of polynomials
--   poly_alike, el_alike       the tests
--   coprime_list, squarefree_list   u a + v b = 1, u a + v a' = 1
use mathlib.Core.Path.{◌≡◌, sym, ap₂, ◌∙◌, subst}
use mathlib.Core.Bool.{◌&&◌}
use mathlib.Core.List.{List, [], ◌∷◌}
use Prim.Native.Nat.{ℕ}
use lib.Dec.{T}
use Rattle.math_ring.proofs.Laws as r
use Rattle.math_ring.specs.Ring.{CRing, Hom}
use Rattle.math_ring.proofs.Hom.{hom_eval}
use Rattle.math_triple.specs.Tri.{Tri, M, X, Y}
use Rattle.math_triple.specs.Order.{triops}
use Rattle.math_fp.specs.Fp.{Prime}
use Rattle.math_fp.proofs.Trial.{and_l, and_r}
use Rattle.math_valued.specs.Polynomial.{polys, Poly, Divides, Squarefree, Coprime}
use Rattle.math_valued.specs.Gcd.{IsGcd}
use Rattle.math_valued.proofs.Polynomial.{P_path}
use Rattle.math_valued.proofs.Coprime.{coprime_unit}
use Rattle.math_rows.specs.Reading.{Reading}
use Rattle.math_rows.specs.Made.{reading, derivation}
use Rattle.math_rows.proofs.Square.{∂, squarefree_unit}
use Rattle.poly_rows.specs.Polynomial.{polynomial}
use Rattle.base_lists.specs.Coefficients.{trim}
use Rattle.examples_lists.specs.Lists.{plus, slope, lists, alike, alike_t}
use Rattle.math_rows.proofs.Trims.{trim_row}
use Rattle.examples_lists.proofs.Lists.{row_nil, row_one, row_plus, row_times, row_minus, row_slope, alike_sound}

-- ---- lists as polynomials
module _ (p : ℕ) (pr : Prime p) where
  abbrev ρ : Reading p
  ρ = reading p pr

  abbrev R : CRing
  R = polys (reading p pr).𝓥

  pub poly_hom : Hom (lists p) (polys (reading p pr).𝓥).ops (polynomial p pr)
  poly_hom = record {
    add = λ x y. P_path ρ.𝓥 (row_plus ρ x y);
    mul = λ x y. P_path ρ.𝓥 (row_times ρ (trim x) (trim y) ∙ ap₂ ρ.𝓥.L.ops.mul (trim_row ρ x) (trim_row ρ y));
    neg = λ x. P_path ρ.𝓥 (row_minus ρ x);
    𝟎 = P_path ρ.𝓥 (row_nil ρ);
    𝟏 = P_path ρ.𝓥 (row_one ρ);
  }

  pub poly_alike : (x y : List ℕ) → T (alike p x y) → polynomial p pr x ≡ polynomial p pr y
  poly_alike x y z = P_path ρ.𝓥 (alike_sound ρ x y z)

  -- ---- triples
  abbrev pub el : Tri (List ℕ) → Tri (Poly (reading p pr).𝓥)
  el x = record { a = polynomial p pr x.a; b = polynomial p pr x.b; c = polynomial p pr x.c }

  pub el_hom : (G H : List ℕ) → Hom (triops (lists p) G H) (triops (polys (reading p pr).𝓥).ops (polynomial p pr G) (polynomial p pr H)) (el)
  el_hom G H = record {
    add = λ x y. λ i. record { a = poly_hom.add x.a y.a i; b = poly_hom.add x.b y.b i; c = poly_hom.add x.c y.c i };
    mul = λ x y. let e : List (List ℕ) = G ∷ H ∷ x.a ∷ x.b ∷ x.c ∷ y.a ∷ y.b ∷ y.c ∷ [] in
        λ i. record {
          a = hom_eval (polynomial p pr) poly_hom (M X Y).a e i;
          b = hom_eval (polynomial p pr) poly_hom (M X Y).b e i;
          c = hom_eval (polynomial p pr) poly_hom (M X Y).c e i;
        };
    neg = λ x. λ i. record { a = poly_hom.neg x.a i; b = poly_hom.neg x.b i; c = poly_hom.neg x.c i };
    𝟎 = λ i. record { a = poly_hom.𝟎 i; b = poly_hom.𝟎 i; c = poly_hom.𝟎 i };
    𝟏 = λ i. record { a = poly_hom.𝟏 i; b = poly_hom.𝟎 i; c = poly_hom.𝟎 i };
  }

  pub el_alike : (x y : Tri (List ℕ)) → T (alike_t p x y) → el x ≡ el y
  el_alike x y z =
      let s : T (alike p x.b y.b && alike p x.c y.c) = and_r (alike p x.a y.a) _ z in
      let ea : polynomial p pr x.a ≡ polynomial p pr y.a = poly_alike x.a y.a (and_l (alike p x.a y.a) _ z) in
      let eb : polynomial p pr x.b ≡ polynomial p pr y.b = poly_alike x.b y.b (and_l (alike p x.b y.b) _ s) in
      let ec : polynomial p pr x.c ≡ polynomial p pr y.c = poly_alike x.c y.c (and_r (alike p x.b y.b) _ s) in
      λ i. record { a = ea i; b = eb i; c = ec i }

  -- ---- no common factor, no square factor
  by_one : (x : Poly (reading p pr).𝓥) → Divides ρ.𝓥 R.ops.𝟏 x
  by_one x = (x, sym (r.one-mul R x))

  one_is : (u v a b : List ℕ) → T (alike p (plus p ((lists p).mul u a) ((lists p).mul v b)) (1 ∷ []))
      → R.ops.𝟏 ≡ R.ops.add (R.ops.mul (polynomial p pr u) (polynomial p pr a)) (R.ops.mul (polynomial p pr v) (polynomial p pr b))
  one_is u v a b z =
      sym poly_hom.𝟏
      ∙ sym (poly_alike (plus p ((lists p).mul u a) ((lists p).mul v b)) (1 ∷ []) z)
      ∙ poly_hom.add ((lists p).mul u a) ((lists p).mul v b)
      ∙ ap₂ R.ops.add (poly_hom.mul u a) (poly_hom.mul v b)

  pub gcd_one : (u v a b : List ℕ) → T (alike p (plus p ((lists p).mul u a) ((lists p).mul v b)) (1 ∷ [])) → IsGcd ρ.𝓥 (polynomial p pr a) (polynomial p pr b) R.ops.𝟏
  gcd_one u v a b z = record { left = by_one (polynomial p pr a); right = by_one (polynomial p pr b); u = polynomial p pr u; v = polynomial p pr v; comb = one_is u v a b z }

  pub coprime_list : (u v a b : List ℕ) → T (alike p (plus p ((lists p).mul u a) ((lists p).mul v b)) (1 ∷ [])) → Coprime ρ.𝓥 (polynomial p pr a) (polynomial p pr b)
  coprime_list u v a b z = coprime_unit ρ.𝓥 (gcd_one u v a b z) (by_one R.ops.𝟏)

  pub squarefree_list : (u v a : List ℕ) → T (alike p (plus p ((lists p).mul u a) ((lists p).mul v (slope p a))) (1 ∷ [])) → Squarefree ρ.𝓥 (polynomial p pr a)
  squarefree_list u v a z = squarefree_unit ρ (derivation p pr) (polynomial p pr a) R.ops.𝟏
      (subst (λ b. IsGcd ρ.𝓥 (polynomial p pr a) b R.ops.𝟏) (P_path ρ.𝓥 {b = ∂ ρ (derivation p pr) (polynomial p pr a)} (row_slope ρ (derivation p pr) a)) (gcd_one u v a (slope p a) z))
      (by_one R.ops.𝟏)
