-- What the trimmed length of a greatest common divisor says: 1, a unit; 2 or more, a common factor; 0, both are 0.
use mathlib.Core.Path.{◌≡◌, refl, sym, ap, ◌∙◌, subst}
use mathlib.Core.Logic.{◌≢◌, inl, inr}
use mathlib.Core.Bool.{true, false}
use mathlib.Core.List.{List}
use Prim.Native.Nat.{ℕ, zero, suc, ◌+◌, ◌*◌, ◌%◌, ◌<◌, ◌≤◌}
use native.Mathlib.Nat.{mod-lt, mul-zero, zero-mod}
use native.Mathlib.Omega.{arith}
use lib.Dec.{eqb}
use lib.ListN.{get_or}
use Rattle.std.proofs.lemmas.Bool.Decides.{eqb_tells}
use Rattle.math_fp.specs.Fp.{Prime}
use Rattle.math_valued.specs.Gcd.{IsGcd}
use Rattle.math_valued.proofs.Polynomial.{P_path}
use Rattle.math_valued.proofs.Coprime.{coprime_unit, common_nonconst, zero_square, zero_common, zero_divides}
use Rattle.num_mod.specs.Prepared.{PreparedOf}
use Rattle.num_mod.specs.declared.Modulus.{Modulus}
use Rattle.math_rows.specs.Made.{reading, derivation}
use Rattle.math_rows.specs.Row.{tab, Row, Size, row}
use Rattle.math_rows.proofs.Tab.{Begun, begun_start, begun_end, tab_row}
use Rattle.math_rows.proofs.Floors.{zero_row}
use Rattle.math_rows.proofs.Derivative.{derivative_law}
use Rattle.math_rows.proofs.Square.{∂, squarefree_unit, square_factor}
use Rattle.poly_rows.specs.Leaf.{Given}
use Rattle.poly_rows.specs.Polynomial.{polynomial}
use Rattle.poly_euclid.specs.Euclid.{GcdAsks, Common, Found}
use Rattle.poly_euclid.specs.declared.Divisor.{Divisor}
use Rattle.poly_euclid.proofs.Turns.{size_unit, more_two}
use Rattle.poly_factors.specs.Factors.{DeriveAsks, Derived, SquareTest, CoprimeTest}

-- ---- the derivative
abbrev pub coefficient : ℕ → List ℕ → ℕ → ℕ
coefficient p x j = ((j + 1) * get_or x (j + 1) 0) % p

pub derive_start : {p : ℕ} {x d : List ℕ} → DeriveAsks p x d → Begun 32 (coefficient p x) d 0
derive_start {p} {x} h = subst (λ r. Begun 32 (coefficient p x) r 0) (sym h.blank) (begun_start 32 (coefficient p x))

pub derived : (p : ℕ) (x : List ℕ) (n i : ℕ) (r : List ℕ) → Given p x → Size x n → n ≤ i + 1 → Begun 32 (coefficient p x) r i → Derived p x r
derived p x n i r h s l b =
    let g : 1 < p = h.modulus.big in
    let e : r ≡ tab 32 (coefficient p x) = begun_end 32 _ r i b (λ j u v. ap (λ a. ((j + 1) * a) % p) (s.above (j + 1) (omega arith)) ∙ ap (λ a. a % p) (mul-zero (j + 1)) ∙ zero-mod p) in record {
      is_row = subst (λ u. Row p u) (sym e) (tab_row p _ (omega arith) (λ j. mod-lt ((j + 1) * get_or x (j + 1) 0) (omega arith)));
      law = λ pr. ap (row (reading p pr)) e ∙ derivative_law (reading p pr) (derivation p pr) x h.hx.size;
    }

-- where q is prepared of p
pub common_in : {p : ℕ} {q : Modulus} {x y : List ℕ} → PreparedOf p q → Prime p → Row p x → Row p y → GcdAsks q x y
common_in {x = x} {y = y} e pr hx hy = record {
  modulus = e.prepared;
  prime = subst Prime (sym e.is) pr;
  hx = subst (λ k. Row k x) (sym e.is) hx;
  hy = subst (λ k. Row k y) (sym e.is) hy;
}

pub found_of : {p : ℕ} {q : Modulus} {a b x y : List ℕ} {d : Divisor} → PreparedOf p q → Found q.p a b x y d → Found p a b x y d
found_of {a = a} {b = b} {x = x} {y = y} {d = d} e h = subst (λ k. Found k a b x y d) e.is h

-- ---- the tests
module _ (p : ℕ) (x y g : List ℕ) (c : Common p x y g) where
  pub coprime_yes : {n : ℕ} → Size g n → n ≡ 1 → CoprimeTest p x y true
  coprime_yes s e pr = coprime_unit (reading p pr).𝓥 (c.law pr) (size_unit p pr g c.is_row (subst (λ j. Size g j) e s))

  pub coprime_no : (n : ℕ) → Size g n → n ≢ 1 → CoprimeTest p x y false
  coprime_no zero s f pr =
      let 𝓥 = (reading p pr).𝓥 in
      let z = zero_row (reading p pr) g s in
      let X = polynomial p pr x in let Y = polynomial p pr y in let G = polynomial p pr g in
      zero_common 𝓥 X Y (zero_divides 𝓥 G X z (c.law pr).left) (zero_divides 𝓥 G Y z (c.law pr).right)
  coprime_no (suc zero) s f pr = absurd (f refl)
  coprime_no (suc (suc n)) s f pr = common_nonconst (reading p pr).𝓥 (c.law pr) (more_two p pr g c.is_row n s)

  pub coprime_test : (n k : ℕ) → k ≡ n → Size g n → CoprimeTest p x y (eqb k 1)
  coprime_test n k q s = elim (eqb_tells k 1) [
    | inl (e, h) ↦ subst (λ b. CoprimeTest p x y b) (sym e) (coprime_yes s (sym q ∙ h))
    | inr (e, h) ↦ subst (λ b. CoprimeTest p x y b) (sym e) (coprime_no n s (λ z. h (q ∙ z)))
  ]

module _ (p : ℕ) (x d g : List ℕ) (h : Derived p x d) (c : Common p x d g) where
  with_derivative : (pr : Prime p) → IsGcd (reading p pr).𝓥 (polynomial p pr x) (∂ (reading p pr) (derivation p pr) (polynomial p pr x)) (polynomial p pr g)
  with_derivative pr = let 𝓥 = (reading p pr).𝓥 in
      subst (λ u. IsGcd 𝓥 (polynomial p pr x) u (polynomial p pr g)) (P_path 𝓥 {a = polynomial p pr d} {b = ∂ (reading p pr) (derivation p pr) (polynomial p pr x)} (h.law pr)) (c.law pr)

  pub square_yes : {n : ℕ} → Size g n → n ≡ 1 → SquareTest p x true
  square_yes s e pr = squarefree_unit (reading p pr) (derivation p pr) (polynomial p pr x) (polynomial p pr g) (with_derivative pr) (size_unit p pr g c.is_row (subst (λ j. Size g j) e s))

  pub square_no : (n : ℕ) → Size g n → n ≢ 1 → SquareTest p x false
  square_no zero s f pr = let 𝓥 = (reading p pr).𝓥 in zero_square 𝓥 (polynomial p pr x) (zero_divides 𝓥 (polynomial p pr g) (polynomial p pr x) (zero_row (reading p pr) g s) (c.law pr).left)
  square_no (suc zero) s f pr = absurd (f refl)
  square_no (suc (suc n)) s f pr = square_factor (reading p pr) (derivation p pr) (polynomial p pr x) (polynomial p pr g) pr.big (with_derivative pr) (more_two p pr g c.is_row n s)

  pub square_test : (n k : ℕ) → k ≡ n → Size g n → SquareTest p x (eqb k 1)
  square_test n k q s = elim (eqb_tells k 1) [
    | inl (e, h) ↦ subst (λ b. SquareTest p x b) (sym e) (square_yes s (sym q ∙ h))
    | inr (e, h) ↦ subst (λ b. SquareTest p x b) (sym e) (square_no n s (λ z. h (q ∙ z)))
  ]
