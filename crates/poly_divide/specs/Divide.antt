-- Quotients and remainders in lent rows, by known lengths (`Size` of crate math_rows), over a prime p.
--   quotient_in    QuotientInGives: the quotient and its length (`Quotient` and `Exact` of crate poly_rows)
--   less_in        LessInGives: r − x y and its length
--   divide_in      DivideInGives: quotient and remainder (`Divided` of crate poly_rows) and their lengths
use Rattle.std.specs.Prelude.{◌≡◌, List, ℕ, replicate}
use Rattle.math_fp.specs.Fp.{Prime}
use Rattle.math_rows.specs.Made.{reading}
use Rattle.math_rows.specs.Row.{Row, Size, row}
use Rattle.num_mod.specs.Prepared.{Prepared}
use Rattle.num_mod.specs.declared.Modulus.{Modulus}
use Rattle.poly_rows.specs.Division.{DivisionAsks, Quotient, Exact, Divided}

pub record QuotientAsks (q : Modulus) (a : List ℕ) (n : ℕ) (b : List ℕ) (m il : ℕ) (r : List ℕ) : Type 0 where
  pub inp : DivisionAsks q.p a b il
  pub modulus : Prepared q
  pub sa : Size a n
  pub sb : Size b m
  pub blank : r ≡ replicate 32 0

pub record QuotientInGives (p : ℕ) (a b o : List ℕ) (l : ℕ) : Type 0 where
  pub quotient : Quotient p a b o
  pub exact : Exact p a b o
  pub size : Size o l

pub record LessInGives (p : ℕ) (x y r o : List ℕ) (l : ℕ) : Type 0 where
  pub is_row : Row p o
  pub law : (pr : Prime p) → let ρ = reading p pr in let k = ρ.𝓥.L.ops in
      row ρ o ≡ k.add (row ρ r) (k.neg (k.mul (row ρ x) (row ρ y)))
  pub size : Size o l

pub record DivideInGives (p : ℕ) (a b q r : List ℕ) (l k : ℕ) : Type 0 where
  pub divided : Divided p a b q r
  pub sq : Size q l
  pub sr : Size r k
