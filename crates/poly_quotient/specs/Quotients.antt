-- What the quotients of long polynomials ask and hand out; lists and p as in crate poly_long.
--   digit      Digit      one coefficient of a quotient, from those above it
--   quotient   Quotient   the quotient of a x + b y + c z by a monic u, where it exists and fits
use Rattle.std.specs.Prelude.{◌≡◌, List, ℕ, ◌+◌, ◌-◌, ◌%◌, ◌<◌, ◌≤◌, length, get_or}
use Rattle.math_fp.specs.Fp.{Prime}
use Rattle.math_rows.specs.Made.{reading}
use Rattle.math_rows.specs.Row.{row}
use Rattle.math_rows.specs.Sum.{sum_to, term_at}
use Rattle.poly_long.specs.Long.{Storable}

pub record DigitAsks (p : ℕ) (a b c u : List ℕ) (k : ℕ) : Type 0 where
  pub modulus : Storable p
  pub a_most : length a ≤ 65536
  pub b_most : length b ≤ 65536
  pub c_most : length c ≤ 65536
  pub u_most : length u ≤ 65536
  pub u_some : 0 < length u
  pub near : k < 65536

-- coefficient k of a x + b y + c z
abbrev pub terms_at : List ℕ → List ℕ → List ℕ → List ℕ → List ℕ → List ℕ → ℕ → ℕ
terms_at a x b y c z k = sum_to (term_at a x k) (length a) + sum_to (term_at b y k) (length b) + sum_to (term_at c z k) (length c)

pub record Digit (p : ℕ) (a x b y c z u q : List ℕ) (k r : ℕ) : Type 0 where
  pub below : r < p
  pub value : r ≡ (terms_at a x b y c z (k + (length u - 1)) + (p - sum_to (term_at u q (k + (length u - 1))) (length u - 1) % p)) % p

pub record QuotientAsks (p : ℕ) (a b c u q : List ℕ) : Type 0 where
  pub modulus : Storable p
  pub a_most : length a ≤ 65536
  pub b_most : length b ≤ 65536
  pub c_most : length c ≤ 65536
  pub u_most : length u ≤ 65536
  pub q_most : length q ≤ 65536
  pub u_some : 0 < length u
  pub monic : get_or u (length u - 1) 0 ≡ 1

pub record Quotient (p : ℕ) (a x b y c z u q q' : List ℕ) : Type 0 where
  pub size : length q' ≡ length q
  pub each : (i : ℕ) → get_or q' i 0 < p
  pub law : (pr : Prime p) → let ρ = reading p pr in let o = ρ.𝓥.L.ops in (l : List ℕ) → length l ≡ length q → ((i : ℕ) → get_or l i 0 < p)
      → o.mul (row ρ u) (row ρ l) ≡ o.add (o.add (o.mul (row ρ a) (row ρ x)) (o.mul (row ρ b) (row ρ y))) (o.mul (row ρ c) (row ρ z))
      → q' ≡ l
