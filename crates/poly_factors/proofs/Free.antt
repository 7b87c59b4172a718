-- The test for squares in two rows.
--   not_left, by_right   its answers
--   free_unique          two answers are equal, for a prime p
use mathlib.Core.Path.{◌≡◌, refl, sym}
use mathlib.Core.Logic.{◌⊎◌, inl, inr}
use mathlib.Core.Bool.{Bool, true, false, true≢false}
use mathlib.Core.List.{List}
use Prim.Native.Nat.{ℕ}
use Rattle.math_fp.specs.Fp.{Prime}
use Rattle.math_valued.specs.Factor.{SquareFactor}
use Rattle.math_valued.proofs.Factor.{free_no_square}
use Rattle.math_rows.specs.Made.{reading}
use Rattle.poly_rows.specs.Polynomial.{polynomial}
use Rattle.poly_factors.specs.Factors.{SquareTest, FreeTest}

pub not_left : (p : ℕ) (x y : List ℕ) (a : Bool) → SquareTest p x a → a ≡ false → FreeTest p x y false
not_left p x y true t e = absurd (true≢false e)
not_left p x y false t e = λ pr. inl (t pr)

pub by_right : (p : ℕ) (x y : List ℕ) (a b : Bool) → SquareTest p x a → a ≡ true → SquareTest p y b → FreeTest p x y b
by_right p x y true true t e w = λ pr. (t pr, w pr)
by_right p x y true false t e w = λ pr. inr (w pr)
by_right p x y false b t e w = absurd (true≢false (sym e))

-- ---- one answer
module _ (p : ℕ) (pr : Prime p) (x y : List ℕ) where
  not_both : FreeTest p x y true → FreeTest p x y false → ⊥
  not_both t w = go (w pr)
    where
      go : SquareFactor (reading p pr).𝓥 (polynomial p pr x) ⊎ SquareFactor (reading p pr).𝓥 (polynomial p pr y) → ⊥
      go (inl f) = free_no_square (reading p pr).𝓥 (polynomial p pr x) (t pr).0 f
      go (inr f) = free_no_square (reading p pr).𝓥 (polynomial p pr y) (t pr).1 f

  pub free_unique : (a b : Bool) → FreeTest p x y a → FreeTest p x y b → a ≡ b
  free_unique true true t w = refl
  free_unique true false t w = absurd (not_both t w)
  free_unique false true t w = absurd (not_both w t)
  free_unique false false t w = refl
