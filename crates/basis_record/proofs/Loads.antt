-- The seven rows of a record, loaded.
--   rows_are     they are rows of numbers below p
--   rows_path    they stand for the basis that the record stands for; rows_good: so they are good where it is
use mathlib.Core.Path.{◌≡◌, sym, subst}
use mathlib.Core.List.{List}
use Prim.Native.Nat.{ℕ, ◌<◌}
use native.Mathlib.Omega.{arith}
use lib.ListN.{get_or}
use Rattle.math_valued.proofs.Polynomial.{P_path}
use Rattle.math_rows.specs.Row.{Row}
use Rattle.field_open.specs.Refusal.{Accepted}
use Rattle.math_ideals.specs.Basis.{Good}
use Rattle.basis_record.specs.Record.{part, setting, poly_of, basis_of}
use Rattle.basis_record.specs.Seven.{row_at, AreRows, rows_of}
use Rattle.basis_record.specs.declared.Seven.{Seven}
use Rattle.basis_record.specs.Store.{SevenLoaded}
use Rattle.basis_record.proofs.Sevens.{every}

pub rows_are : {p : ℕ} {B : List ℕ} {b : Seven} → SevenLoaded B b → ((i : ℕ) → get_or B i 0 < p) → AreRows p b
rows_are {p} {B} {b} l e = every {b = b} (Row p) (at 0 (omega arith)) (at 1 (omega arith)) (at 2 (omega arith)) (at 3 (omega arith)) (at 4 (omega arith)) (at 5 (omega arith)) (at 6 (omega arith))
  where
    at : (i : ℕ) → i < 7 → Row p (row_at b i)
    at i k = (l.each i k).is_row p e

module _ {p : ℕ} {G H : List ℕ} (A : Accepted p G H) {B : List ℕ} {b : Seven} (l : SevenLoaded B b) where
  path : (i : ℕ) → i < 7 → poly_of A (row_at b i) ≡ poly_of A (part i B)
  path i k = P_path (setting A).𝓥 {a = poly_of A (row_at b i)} {b = poly_of A (part i B)} ((l.each i k).law p A.prime)

  pub rows_path : rows_of A b ≡ basis_of A B
  rows_path = λ i. record {
    U = path 6 (omega arith) i;
    M = record { a = path 0 (omega arith) i; b = path 1 (omega arith) i; c = path 2 (omega arith) i };
    N = record { a = path 3 (omega arith) i; b = path 4 (omega arith) i; c = path 5 (omega arith) i };
  }

  pub rows_good : Good (setting A) (basis_of A B) → Good (setting A) (rows_of A b)
  rows_good = subst (Good (setting A)) (sym rows_path)
