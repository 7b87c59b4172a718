-- The basis record (document 01: "A basis is stored as M0, M1, M2, N0, N1, N2, U: seven rows of 17 coefficients each, 119 numbers in all,
-- zeros above the degree").
--   part i B           the i-th of the seven rows, i from 0 to 6
--   setting A          the field p, G, H with its two series, as the theory of ideals takes it (specs/Setting.antt)
--   poly_of A l         the polynomial of a list
--   basis_of A B        the seven polynomials
--   IsRecord p G H B   these 119 numbers are the scaled reduced basis of a reduced ideal of the field p, G, H: what refusal 9 is about
-- A record is settled by its polynomials, and by its ideal: `basis_unique`, `record_unique` in proofs/Unique.antt.
use Rattle.std.specs.Prelude.{◌≡◌, List, ℕ, ◌*◌, ◌<◌, length, get_or}
use Rattle.base_lists.specs.Pieces.{cut}
use Rattle.poly_rows.specs.Polynomial.{polynomial}
use Rattle.field_open.specs.Refusal.{Accepted}
use Rattle.math_ideals.specs.Setting.{P}
use Rattle.math_ideals.specs.Ideal.{Basis}
use Rattle.math_ideals.specs.Basis.{Good}
pub use Rattle.basis_record.specs.Setting.{setting}

abbrev pub part : ℕ → List ℕ → List ℕ
part i B = cut (17 * i) 17 B

module _ {p : ℕ} {G H : List ℕ} (A : Accepted p G H) where
  abbrev pub poly_of : List ℕ → P (setting A)
  poly_of l = polynomial p A.prime l

  abbrev pub basis_of : List ℕ → Basis (setting A)
  basis_of B = record {
    U = poly_of (part 6 B);
    M = record { a = poly_of (part 0 B); b = poly_of (part 1 B); c = poly_of (part 2 B) };
    N = record { a = poly_of (part 3 B); b = poly_of (part 4 B); c = poly_of (part 5 B) };
  }

pub record IsRecord (p : ℕ) (G H B : List ℕ) : Type 0 where
  pub size : length B ≡ 119
  pub each : (i : ℕ) → get_or B i 0 < p
  pub good : (A : Accepted p G H) → Good (setting A) (basis_of A B)
