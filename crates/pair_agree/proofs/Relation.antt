-- To be of one field is an equivalence on pairs of lists of coefficients.
--   one_refl, one_sym, one_trans   equal pairs are of one field; in either order; and with a third
--   apart_lists   the two lists of an accepted pair never agree: the one would divide the other
--   not_both      no list agrees with both lists of an accepted pair, so that two pairs agree in one order only
use mathlib.Core.Path.{◌≡◌, sym, ◌∙◌}
use mathlib.Core.Logic.{inl, inr}
use mathlib.Core.List.{List}
use Prim.Native.Nat.{ℕ}
use native.Mathlib.Omega.{arith}
use Rattle.math_fp.specs.Fp.{Prime}
use Rattle.math_valued.specs.Polynomial.{polys, IsUnit}
use Rattle.math_valued.proofs.Degree.{same}
use Rattle.math_valued.proofs.Polynomial.{unit_const}
use Rattle.math_rows.specs.Made.{reading}
use Rattle.poly_rows.specs.Polynomial.{polynomial}
use Rattle.field_open.specs.Refusal.{Degree, Accepted}
use Rattle.field_open.proofs.Accept.{degree_has}
use Rattle.pair_laws.specs.OneField.{Agree, OneField}
use Rattle.pair_laws.proofs.Lists.{agree_sym, agree_degree}
use Rattle.pair_laws.proofs.Relation.{agree_refl, agree_trans}
use Rattle.pair_agree.specs.Answer.{Coefficients}
use Rattle.pair_agree.proofs.Polynomials.{agree_poly}

pub one_sym : {p : ℕ} {G H G' H' : List ℕ} → OneField p G H G' H' → OneField p G' H' G H
one_sym (inl (a, b)) = inl (agree_sym a, agree_sym b)
one_sym (inr (a, b)) = inr (agree_sym b, agree_sym a)

module _ (p : ℕ) (pr : Prime p) where
  pub one_refl : {G H : List ℕ} → Coefficients p G H → OneField p G H G H
  one_refl s = inl (agree_refl p pr s.list_g, agree_refl p pr s.list_h)

  pub one_trans : {G H G' H' G'' H'' : List ℕ} → Coefficients p G' H' → OneField p G H G' H' → OneField p G' H' G'' H'' → OneField p G H G'' H''
  one_trans s (inl (a, b)) (inl (c, d)) = inl (agree_trans p pr s.list_g a c, agree_trans p pr s.list_h b d)
  one_trans s (inl (a, b)) (inr (c, d)) = inr (agree_trans p pr s.list_g a c, agree_trans p pr s.list_h b d)
  one_trans s (inr (a, b)) (inl (c, d)) = inr (agree_trans p pr s.list_h a d, agree_trans p pr s.list_g b c)
  one_trans s (inr (a, b)) (inr (c, d)) = inl (agree_trans p pr s.list_h a d, agree_trans p pr s.list_g b c)

-- H = αG, so that G divides both: G is constant, and so is H
pub apart_lists : {p : ℕ} {G H : List ℕ} → Accepted p G H → Agree p G H → ⊥
apart_lists {p} {G} {H} s a =
    let pr = s.prime in
    let 𝓥 = (reading p pr).𝓥 in
    let (α, u, e) = agree_poly p pr s.list_g s.list_h a in
    let unit : IsUnit 𝓥 (polynomial p pr G) = s.apart pr (polynomial p pr G) ((polys 𝓥).ops.𝟏, sym ((polys 𝓥).laws.mul-one (polynomial p pr G))) (α, e ∙ (polys 𝓥).laws.mul_comm α (polynomial p pr G)) in
    let d : s.deg_g ≡ 0 = same 𝓥 (degree_has pr s.list_g) (unit_const 𝓥 (polynomial p pr G) unit) in
    let d' : s.deg_g ≡ s.deg_h = agree_degree s.list_g s.list_h a in
    omega (arith, s.some)

pub not_both : {p n : ℕ} {l G H : List ℕ} → Degree p l n → Accepted p G H → Agree p l G → Agree p l H → ⊥
not_both {p} h s a b = apart_lists s (agree_trans p s.prime h (agree_sym a) b)
