-- What the test for a common factor of seven rows asks and decides. p is prime.
--   NoFactor   no factor divides all seven (as in crate math_ideals, specs/Basis.antt, of a basis)
--   Alone      a test of this
-- In proofs/Coprime.antt: `alone_unique`, two answers that meet it are equal.
use Rattle.std.specs.Prelude.{Bool, ℕ}
use Rattle.math_fp.specs.Fp.{Prime}
use Rattle.math_valued.specs.Polynomial.{Poly, Divides, IsUnit}
use Rattle.math_rows.specs.Made.{reading}
use Rattle.num_mod.specs.Prepared.{Prepared}
use Rattle.num_mod.specs.declared.Modulus.{Modulus}
use Rattle.poly_rows.specs.Polynomial.{polynomial}
use Rattle.base_answers.specs.Decides.{Decides}
use Rattle.basis_record.specs.Seven.{AreRows}
use Rattle.basis_record.specs.declared.Seven.{Seven}

pub record NoCommonFactorAsks (q : Modulus) (b : Seven) : Type 0 where
  pub modulus : Prepared q
  pub prime : Prime q.p
  pub rows : AreRows q.p b

module _ (p : ℕ) (pr : Prime p) (b : Seven) where
  -- d divides all seven
  abbrev pub AllSeven : Poly (reading p pr).𝓥 → Type 0
  AllSeven d =
      Divides (reading p pr).𝓥 d (polynomial p pr b.u) ×
      Divides (reading p pr).𝓥 d (polynomial p pr b.m0) × Divides (reading p pr).𝓥 d (polynomial p pr b.m1) × Divides (reading p pr).𝓥 d (polynomial p pr b.m2) ×
      Divides (reading p pr).𝓥 d (polynomial p pr b.n0) × Divides (reading p pr).𝓥 d (polynomial p pr b.n1) × Divides (reading p pr).𝓥 d (polynomial p pr b.n2)

  -- "no factor divides all seven"
  abbrev pub NoFactor : Type 0
  NoFactor = (d : Poly (reading p pr).𝓥) → AllSeven d → IsUnit (reading p pr).𝓥 d

abbrev pub Alone : ℕ → Seven → Bool → Type 0
Alone p b o = (pr : Prime p) → Decides o (NoFactor p pr b)
