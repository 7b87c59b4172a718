-- The seven rows of a basis, as the code holds them, by name and by number.
--   Seven           the rows of M0, M1, M2, N0, N1, N2, U: the code's struct
--   row_at b i       the i-th of them, i from 0 to 6 (past 6 it is U again)
--   AreRows p b     each is a row of numbers below p
--   rows_of σ b      the basis that they stand for
--   Holds σ g h gh  g, h, gh are rows of G, H and G H
--   Three, Blank    three rows a, b, c for coordinates; three zero rows
-- What holds of each of the seven holds of every row: `every` in proofs/Sevens.antt.
use Rattle.std.specs.Prelude.{◌≡◌, List, ℕ, zero, suc, replicate}
use Rattle.math_rows.specs.Made.{reading}
use Rattle.math_rows.specs.Row.{Row, row}
use Rattle.math_ideals.specs.Ideal.{Basis}
use Rattle.field_open.specs.Refusal.{Accepted}
use Rattle.basis_record.specs.Record.{setting, poly_of}
use Rattle.basis_record.specs.declared.Seven.{Seven}

abbrev pub row_at : Seven → ℕ → List ℕ
row_at b zero = b.m0
row_at b (suc zero) = b.m1
row_at b (suc (suc zero)) = b.m2
row_at b (suc (suc (suc zero))) = b.n0
row_at b (suc (suc (suc (suc zero)))) = b.n1
row_at b (suc (suc (suc (suc (suc zero))))) = b.n2
row_at b (suc (suc (suc (suc (suc (suc i)))))) = b.u

abbrev pub AreRows : ℕ → Seven → Type 0
AreRows p b = (i : ℕ) → Row p (row_at b i)

module _ {p : ℕ} {G H : List ℕ} (σ : Accepted p G H) where
  abbrev pub rows_of : Seven → Basis (setting σ)
  rows_of b = record {
    U = poly_of σ b.u;
    M = record { a = poly_of σ b.m0; b = poly_of σ b.m1; c = poly_of σ b.m2 };
    N = record { a = poly_of σ b.n0; b = poly_of σ b.n1; c = poly_of σ b.n2 };
  }

  pub record Holds (g h gh : List ℕ) : Type 0 where
    pub g_is : row (reading p σ.prime) g ≡ row (reading p σ.prime) G
    pub h_is : row (reading p σ.prime) h ≡ row (reading p σ.prime) H
    pub gh_is : row (reading p σ.prime) gh ≡ (reading p σ.prime).𝓥.L.ops.mul (row (reading p σ.prime) G) (row (reading p σ.prime) H)

pub record Three : Type 0 where
  pub a : List ℕ
  pub b : List ℕ
  pub c : List ℕ

abbrev pub three : List ℕ → List ℕ → List ℕ → Three
three a b c = record { a = a; b = b; c = c }

pub record Blank (o : Three) : Type 0 where
  pub a : o.a ≡ replicate 32 0
  pub b : o.b ≡ replicate 32 0
  pub c : o.c ≡ replicate 32 0
