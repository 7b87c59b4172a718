-- Rows 7 and 8, by the tests on the rows of the two lists.
--   over_both                      the tests may be asked
--   by_number                      the number that the tests give is that of rows 7 and 8
use mathlib.Core.Path.{◌≡◌, refl, sym, ap₂, subst}
use mathlib.Core.Logic.{◌⊎◌, inl, inr}
use mathlib.Core.Bool.{Bool, true, false}
use mathlib.Core.List.{List}
use Prim.Native.Nat.{ℕ, ◌≤◌}
use native.Mathlib.Omega.{arith}
use Rattle.math_fp.specs.Fp.{Prime}
use Rattle.math_valued.specs.Factor.{SquareFactor, CommonFactor}
use Rattle.math_valued.proofs.Polynomial.{P_path}
use Rattle.math_valued.proofs.Factor.{free_no_square, apart_no_common}
use Rattle.math_rows.specs.Made.{reading}
use Rattle.num_prime.specs.Table.{largest}
use Rattle.poly_rows.specs.Leaf.{Listed}
use Rattle.poly_rows.specs.Polynomial.{polynomial}
use Rattle.poly_factors.specs.Factors.{OverBoth, FreeTest, CoprimeTest}
use Rattle.field_open.specs.Refusal.{Fault7, Fault8, Rows78}
use Rattle.field_factors.specs.Factors.{factor_number}
use Rattle.field_open.specs.Parts.{Shaped}
use Rattle.field_open.proofs.Rows.{row_of}

-- the polynomial of a list is that of its row
same : {p : ℕ} {l x : List ℕ} (pr : Prime p) → Listed l x → polynomial p pr x ≡ polynomial p pr l
same {p} pr k = P_path (reading p pr).𝓥 (k.law p pr)

-- ---- the rows
module _ {p : ℕ} {G H x y : List ℕ} (s : Shaped p G H) (u : Listed G x) (v : Listed H y) where
  pub over_both : OverBoth p x y
  over_both = record {
    modulus = record { big = s.prime.big; small = (let h : p ≤ largest = s.high in omega arith) };
    prime = s.prime;
    hx = row_of s.list_g u;
    hy = row_of s.list_h v;
  }

  square_of_lem : (pr : Prime p) → SquareFactor (reading p pr).𝓥 (polynomial p pr x) ⊎ SquareFactor (reading p pr).𝓥 (polynomial p pr y)
      → SquareFactor (reading p pr).𝓥 (polynomial p pr G) ⊎ SquareFactor (reading p pr).𝓥 (polynomial p pr H)
  square_of_lem pr (inl f) = inl (subst (SquareFactor (reading p pr).𝓥) (same pr u) f)
  square_of_lem pr (inr f) = inr (subst (SquareFactor (reading p pr).𝓥) (same pr v) f)

  no_square : FreeTest p x y true → Fault7 p G H → ⊥
  no_square t (pr, inl f) = free_no_square (reading p pr).𝓥 (polynomial p pr x) (t pr).0 (subst (SquareFactor (reading p pr).𝓥) (sym (same pr u)) f)
  no_square t (pr, inr f) = free_no_square (reading p pr).𝓥 (polynomial p pr y) (t pr).1 (subst (SquareFactor (reading p pr).𝓥) (sym (same pr v)) f)

  moved : (pr : Prime p) → CommonFactor (reading p pr).𝓥 (polynomial p pr x) (polynomial p pr y) ≡ CommonFactor (reading p pr).𝓥 (polynomial p pr G) (polynomial p pr H)
  moved pr = ap₂ (CommonFactor (reading p pr).𝓥) (same pr u) (same pr v)

  no_common : CoprimeTest p x y true → Fault8 p G H → ⊥
  no_common t (pr, f) = apart_no_common (reading p pr).𝓥 (polynomial p pr x) (polynomial p pr y) (t pr) (subst (λ T. T) (sym (moved pr)) f)

  rows : (free apart : Bool) → FreeTest p x y free → CoprimeTest p x y apart → Rows78 p G H (factor_number free apart)
  rows false apart t w = inl ((s.prime, square_of_lem s.prime (t s.prime)), refl)
  rows true false t w = inr (no_square t, inl ((s.prime, subst (λ T. T) (moved s.prime) (w s.prime)), refl))
  rows true true t w = inr (no_square t, inr (no_common w, refl))

  pub by_number : (free apart : Bool) (n : ℕ) → n ≡ factor_number free apart → FreeTest p x y free → CoprimeTest p x y apart → Rows78 p G H n
  by_number free apart n e t w = subst (Rows78 p G H) (sym e) (rows free apart t w)
