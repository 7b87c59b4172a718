-- Two pairs of one field are refused alike.
--   refusal_carry   lists of coefficients that are of one field have one number in the table of refusals
--   accept_carry    where one pair is accepted, so is the other
use mathlib.Core.Path.{◌≡◌, sym, subst}
use mathlib.Core.Logic.{inl, inr}
use mathlib.Core.List.{List}
use Prim.Native.Nat.{ℕ, ◌<◌}
use native.Mathlib.Nat.{add_comm}
use Rattle.base_answers.proofs.Stages.{stage_carry}
use Rattle.math_fp.specs.Fp.{Prime}
use Rattle.math_valued.specs.Val.{Valued}
use Rattle.math_valued.specs.Polynomial.{polys, Poly, Divides}
use Rattle.math_valued.specs.Factor.{SquareFactor, CommonFactor}
use Rattle.math_valued.proofs.Gcds.{divides_mul}
use Rattle.math_rows.specs.Made.{reading}
use Rattle.poly_rows.specs.Polynomial.{polynomial}
use Rattle.field_open.specs.Refusal.{highest, Degree, Fault3, Fault4, Fault5, Fault6, Fault7, Fault8, Refusal, Accepted}
use Rattle.field_open.proofs.Accept.{accepted, accepted_none}
use Rattle.pair_laws.specs.OneField.{Agree, OneField}
use Rattle.pair_agree.specs.Answer.{Coefficients}
use Rattle.pair_laws.proofs.Lists.{agree_degree}
use Rattle.pair_agree.proofs.Polynomials.{agree_poly}
use Rattle.pair_agree.proofs.Relation.{one_sym}

module _ (𝓥 : Valued) where
  open (polys 𝓥).ops use {mul as ◌⊠◌}

  infixl 70 ◌⊠◌
  -- what divides a divides α a
  more : (e a α b : Poly 𝓥) → b ≡ α ⊠ a → Divides 𝓥 e a → Divides 𝓥 e b
  more e a α b h k = subst (Divides 𝓥 e) (sym h) (divides_mul 𝓥 e a α k)

  square_more : (a α b : Poly 𝓥) → b ≡ α ⊠ a → SquareFactor 𝓥 a → SquareFactor 𝓥 b
  square_more a α b h (e, k, f) = (e, k, more (e ⊠ e) a α b h f)

  common_more : (a α b a' α' b' : Poly 𝓥) → b ≡ α ⊠ a → b' ≡ α' ⊠ a' → CommonFactor 𝓥 a a' → CommonFactor 𝓥 b b'
  common_more a α b a' α' b' h h' (e, k, f, g) = (e, k, more e a α b h f, more e a' α' b' h' g)

module _ {p : ℕ} where
  square_list : (pr : Prime p) {l l' : List ℕ} {n n' : ℕ} → Degree p l n → Degree p l' n' → Agree p l l'
      → SquareFactor (reading p pr).𝓥 (polynomial p pr l) → SquareFactor (reading p pr).𝓥 (polynomial p pr l')
  square_list pr {l} {l'} h h' a s =
      let (α, u, e) = agree_poly p pr h h' a in
      square_more (reading p pr).𝓥 (polynomial p pr l) α (polynomial p pr l') e s

  degree_list : {l l' : List ℕ} {n n' m : ℕ} → Degree p l n → Degree p l' n' → Agree p l l' → Degree p l m → Degree p l' m
  degree_list {l' = l'} h h' a k = subst (Degree p l') (sym (agree_degree k h' a)) h'

module _ (p : ℕ) {G H G' H' : List ℕ} (s : Coefficients p G H) (s' : Coefficients p G' H') where
  fault4 : OneField p G H G' H' → Fault4 p G H → Fault4 p G' H'
  fault4 (inl (a, b)) (g, h) = (degree_list s.list_g s'.list_g a g, degree_list s.list_h s'.list_h b h)
  fault4 (inr (a, b)) (g, h) = (degree_list s.list_h s'.list_g b h, degree_list s.list_g s'.list_h a g)

  fault5 : OneField p G H G' H' → Fault5 p G H → Fault5 p G' H'
  fault5 (inl (a, b)) (n, m, g, h, l) = (n, m, degree_list s.list_g s'.list_g a g, degree_list s.list_h s'.list_h b h, l)
  fault5 (inr (a, b)) (n, m, g, h, l) = (m, n, degree_list s.list_h s'.list_g b h, degree_list s.list_g s'.list_h a g, subst (λ k. highest < k) (add_comm n m) l)

  fault6 : OneField p G H G' H' → Fault6 p G H → Fault6 p G' H'
  fault6 (inl (a, b)) (n, m, g, h, l) = (n, m, degree_list s.list_g s'.list_g a g, degree_list s.list_h s'.list_h b h, l)
  fault6 (inr (a, b)) (n, m, g, h, l) = (m, n, degree_list s.list_h s'.list_g b h, degree_list s.list_g s'.list_h a g, λ e. l (sym e))

  fault7 : OneField p G H G' H' → Fault7 p G H → Fault7 p G' H'
  fault7 (inl (a, b)) (pr, inl k) = (pr, inl (square_list pr s.list_g s'.list_g a k))
  fault7 (inl (a, b)) (pr, inr k) = (pr, inr (square_list pr s.list_h s'.list_h b k))
  fault7 (inr (a, b)) (pr, inl k) = (pr, inr (square_list pr s.list_g s'.list_h a k))
  fault7 (inr (a, b)) (pr, inr k) = (pr, inl (square_list pr s.list_h s'.list_g b k))

  fault8 : OneField p G H G' H' → Fault8 p G H → Fault8 p G' H'
  fault8 (inl (a, b)) (pr, k) =
      let (α, u, e) = agree_poly p pr s.list_g s'.list_g a in
      let (β, v, f) = agree_poly p pr s.list_h s'.list_h b in
      (pr, common_more (reading p pr).𝓥 (polynomial p pr G) α (polynomial p pr G') (polynomial p pr H) β (polynomial p pr H') e f k)
  fault8 (inr (a, b)) (pr, k) =
      let (α, u, e) = agree_poly p pr s.list_g s'.list_h a in
      let (β, v, f) = agree_poly p pr s.list_h s'.list_g b in
      let (x, n, g, h) = common_more (reading p pr).𝓥 (polynomial p pr G) α (polynomial p pr H') (polynomial p pr H) β (polynomial p pr G') e f k in
      (pr, (x, n, h, g))

none : {p : ℕ} {l : List ℕ} {n : ℕ} {A : Type 0} → Degree p l n → Fault3 p l → A
none h f = absurd (f _ h)

module _ (p : ℕ) {G H G' H' : List ℕ} (s : Coefficients p G H) (s' : Coefficients p G' H') (one : OneField p G H G' H') where
  pub refusal_carry : (n : ℕ) → Refusal p G H n → Refusal p G' H' n
  unfolding Refusal
  refusal_carry n =
      let two : OneField p G' H' G H = one_sym one in
      stage_carry (λ f. f) (λ f. f) (stage_carry (λ f. f) (λ f. f)
      (stage_carry (none s.list_g) (none s'.list_g) (stage_carry (none s.list_h) (none s'.list_h)
      (stage_carry (fault4 p s s' one) (fault4 p s' s two) (stage_carry (fault5 p s s' one) (fault5 p s' s two) (stage_carry (fault6 p s s' one) (fault6 p s' s two)
      (stage_carry (fault7 p s s' one) (fault7 p s' s two) (stage_carry (fault8 p s s' one) (fault8 p s' s two) (λ e. e)))))))))

  pub accept_carry : Accepted p G H → Accepted p G' H'
  accept_carry A = accepted p G' H' (refusal_carry 0 (accepted_none p G H A))
