-- Division of rows. il is the inverse of the leading coefficient of b, so that b is not 0.
--   Inverts    il is that inverse
--   Quotient   q, with a − q b of lower degree than b
--   Exact      the polynomial w with b w = a, if there is one: a quotient is it (`exact_made` in proofs/Division.antt)
--   Divided    a = q b + r, with r of lower degree than b; there is one such pair: `divided_unique` in proofs/Division.antt
--   Digit      one coefficient of a quotient
use Rattle.std.specs.Prelude.{◌≡◌, List, ℕ, ◌+◌, ◌-◌, ◌*◌, ◌%◌, ◌<◌, ◌≤◌, get_or}
use Rattle.math_fp.specs.Fp.{Prime}
use Rattle.math_valued.specs.Degree.{Has, Lt}
use Rattle.num_mod.specs.Residue.{IsModulus}
use Rattle.math_rows.specs.Made.{reading}
use Rattle.math_rows.specs.Row.{Row, Size, row}
use Rattle.math_rows.specs.Sum.{sum_to, term_at}
use Rattle.num_mod.specs.Prepared.{Prepared}
use Rattle.num_mod.specs.declared.Modulus.{Modulus}

pub record Inverts (p : ℕ) (b : List ℕ) (il : ℕ) : Type 0 where
  pub below : il < p
  pub law : (n : ℕ) → Size b n → (il * get_or b (n - 1) 0) % p ≡ 1

pub record DivisionAsks (p : ℕ) (a b : List ℕ) (il : ℕ) : Type 0 where
  pub modulus : IsModulus p
  pub prime : Prime p
  pub ha : Row p a
  pub hb : Row p b
  pub hi : il < p
  pub inv : (n : ℕ) → Size b n → (il * get_or b (n - 1) 0) % p ≡ 1

pub record Quotient (p : ℕ) (a b q : List ℕ) : Type 0 where
  pub is_row : Row p q
  pub room : (n m : ℕ) → Size q n → Size b m → n + m ≤ 33
  pub law : (pr : Prime p) (n : ℕ) → let ρ = reading p pr in Has ρ.𝓥 (row ρ b) n
      → Lt ρ.𝓥 (ρ.𝓥.L.ops.add (row ρ a) (ρ.𝓥.L.ops.neg (ρ.𝓥.L.ops.mul (row ρ q) (row ρ b)))) n

pub record Exact (p : ℕ) (a b q : List ℕ) : Type 0 where
  pub is_row : Row p q
  pub law : (pr : Prime p) → let ρ = reading p pr in (w : ρ.𝓥.L.El) → ρ.𝓥.IsPoly w → ρ.𝓥.L.ops.mul (row ρ b) w ≡ row ρ a → row ρ q ≡ w

pub record Divided (p : ℕ) (a b q r : List ℕ) : Type 0 where
  pub q_row : Row p q
  pub r_row : Row p r
  pub law : (pr : Prime p) → let ρ = reading p pr in row ρ a ≡ ρ.𝓥.L.ops.add (ρ.𝓥.L.ops.mul (row ρ q) (row ρ b)) (row ρ r)
  pub low : (pr : Prime p) (n : ℕ) → let ρ = reading p pr in Has ρ.𝓥 (row ρ b) n → Lt ρ.𝓥 (row ρ r) n

-- ---- one coefficient of the quotient, q_k, from those above it; the quotient has no more than top
pub record QuotientCoefficientAsks (s : Modulus) (a q b : List ℕ) (m il top k : ℕ) : Type 0 where
  pub modulus : Prepared s
  pub ha : Row s.p a
  pub hq : Row s.p q
  pub hb : Row s.p b
  pub hi : il < s.p
  pub sb : Size b m
  pub pos : 0 < m
  pub at : k < top
  pub fits : top + m ≤ 33
  pub low : (i : ℕ) → i ≤ k → get_or q i 0 ≡ 0
  pub high : (i : ℕ) → top ≤ i → get_or q i 0 ≡ 0

abbrev pub Digit : ℕ → List ℕ → List ℕ → List ℕ → ℕ → ℕ → ℕ → ℕ → Type 0
Digit p a q b m il k v = v ≡ ((get_or a (k + (m - 1)) 0 + (p - sum_to (term_at q b (k + (m - 1))) 32 % p)) * il) % p
