-- The common factor of the seven rows, from a chain of greatest common divisors.
--   alone                 its length decides whether a factor divides all seven
--   alone_unique          two answers to seven rows are equal
use mathlib.Core.Path.{◌≡◌, ap, subst}
use mathlib.Core.Bool.{Bool}
use mathlib.Core.List.{List}
use Prim.Native.Nat.{ℕ, zero, suc}
use Rattle.math_fp.specs.Fp.{Prime}
use Rattle.math_valued.specs.Polynomial.{Poly, polys, Divides, IsUnit}
use Rattle.math_valued.proofs.Degree as d
use Rattle.math_valued.proofs.Gcds.{divides_trans}
use Rattle.math_valued.proofs.Coprime.{gcd_greatest}
use Rattle.math_valued.proofs.Polynomial.{unit_const}
use Rattle.math_rows.specs.Made.{reading}
use Rattle.math_rows.specs.Row.{Row, Size}
use Rattle.math_rows.proofs.Rows.{size_has}
use Rattle.math_rows.proofs.Floors.{zero_row}
use Rattle.poly_rows.specs.Polynomial.{polynomial}
use Rattle.num_mod.specs.declared.Modulus.{Modulus}
use Rattle.poly_euclid.specs.Euclid.{Common}
use Rattle.poly_euclid.proofs.Turns.{size_unit}
use Rattle.base_answers.specs.Decides.{Decides}
use Rattle.base_answers.proofs.Tests.{carried, decides_unique}
use Rattle.basis_record.specs.declared.Seven.{Seven}
use Rattle.basis_coprime.specs.Coprime.{NoCommonFactorAsks, AllSeven, NoFactor, Alone}

-- a unit has one coefficient
unit_size : {p : ℕ} (pr : Prime p) (l : List ℕ) (n : ℕ) → Row p l → Size l n → IsUnit (reading p pr).𝓥 (polynomial p pr l) → n ≡ 1
unit_size pr l zero h s u = absurd (d.has_not_zero (reading _ pr).𝓥 (d.has_eq (reading _ pr).𝓥 (unit_const (reading _ pr).𝓥 (polynomial _ pr l) u) (zero_row (reading _ pr) l s)))
unit_size pr l (suc n) h s u = ap suc (d.same (reading _ pr).𝓥 (size_has (reading _ pr) h s) (unit_const (reading _ pr).𝓥 (polynomial _ pr l) u))

module _ {p : ℕ} {b : Seven} {g₁ g₂ g₃ g₄ g₅ g : List ℕ} {n : ℕ} (h₁ : Common p b.u b.m0 g₁) (h₂ : Common p g₁ b.m1 g₂) (h₃ : Common p g₂ b.m2 g₃)
    (h₄ : Common p g₃ b.n0 g₄) (h₅ : Common p g₄ b.n1 g₅) (h₆ : Common p g₅ b.n2 g) (s : Size g n) where
  module _ (pr : Prime p) where
    all : AllSeven p pr b (polynomial p pr g)
    all =
        let 𝓥 = (reading p pr).𝓥 in
        let a₅ = (h₆.law pr).left in
        let a₄ = divides_trans 𝓥 _ _ _ a₅ (h₅.law pr).left in
        let a₃ = divides_trans 𝓥 _ _ _ a₄ (h₄.law pr).left in
        let a₂ = divides_trans 𝓥 _ _ _ a₃ (h₃.law pr).left in
        let a₁ = divides_trans 𝓥 _ _ _ a₂ (h₂.law pr).left in (
          divides_trans 𝓥 _ _ _ a₁ (h₁.law pr).left,
          divides_trans 𝓥 _ _ _ a₁ (h₁.law pr).right,
          divides_trans 𝓥 _ _ _ a₂ (h₂.law pr).right,
          divides_trans 𝓥 _ _ _ a₃ (h₃.law pr).right,
          divides_trans 𝓥 _ _ _ a₄ (h₄.law pr).right,
          divides_trans 𝓥 _ _ _ a₅ (h₅.law pr).right,
          (h₆.law pr).right,
        )

    most : (e : Poly (reading p pr).𝓥) → AllSeven p pr b e → Divides (reading p pr).𝓥 e (polynomial p pr g)
    most e (d₀, d₁, d₂, d₃, d₄, d₅, d₆) =
        let 𝓥 = (reading p pr).𝓥 in
        gcd_greatest 𝓥 e (h₆.law pr) (gcd_greatest 𝓥 e (h₅.law pr) (gcd_greatest 𝓥 e (h₄.law pr) (gcd_greatest 𝓥 e (h₃.law pr) (gcd_greatest 𝓥 e (h₂.law pr) (gcd_greatest 𝓥 e (h₁.law pr) d₀ d₁) d₂) d₃) d₄) d₅) d₆

    -- the seven have no common factor where their greatest common divisor is a unit
    none : IsUnit (reading p pr).𝓥 (polynomial p pr g) → NoFactor p pr b
    none unit e h = divides_trans (reading p pr).𝓥 e (polynomial p pr g) (polys (reading p pr).𝓥).ops.𝟏 (most e h) unit

  pub alone : {o : Bool} → Decides o (n ≡ 1) → Alone p b o
  alone d pr = carried (λ e. none pr (size_unit p pr g h₆.is_row (subst (Size g) e s))) (λ f. unit_size pr g n h₆.is_row s (f (polynomial p pr g) (all pr))) d

pub alone_unique : {q : Modulus} {b : Seven} → NoCommonFactorAsks q b → (o o' : Bool) → Alone q.p b o → Alone q.p b o' → o ≡ o'
alone_unique {q} {b} i o o' h h' = decides_unique o o' (NoFactor q.p i.prime b) (h i.prime) (h' i.prime)
