-- How a product is gathered: sums in 64 bits that stand for their coefficients up to multiples of p.
--   sign_of k e z   z, or − z where e is true
--   Loose l        32 numbers below 2^63: a row before its coefficients are reduced (`row` of crate math_rows reads it as it is)
--   signed         Signed: v, or − v, below p
--   laid           Laid: acc + v t^i y
--   gather         Gathered: acc ± x y
--   settle         Settled: the same polynomial, each coefficient below p
use Rattle.std.specs.Prelude.{◌≡◌, Bool, true, false, List, ℕ, ◌+◌, ◌%◌, ◌<◌, ◌≤◌, length, get_or}
use Rattle.math_ring.specs.Ring.{Ops}
use Rattle.math_fp.specs.Fp.{Prime}
use Rattle.num_mod.specs.Residue.{IsModulus}
use Rattle.math_rows.specs.Made.{reading}
use Rattle.math_rows.specs.Row.{Row, row, tpow}
use Rattle.poly_rows.specs.Leaf.{Cut}
use Rattle.num_mod.specs.Prepared.{Prepared}
use Rattle.num_mod.specs.declared.Modulus.{Modulus}

abbrev pub sign_of : {A : Type 0} → Ops A → Bool → A → A
sign_of o true z = o.neg z
sign_of o false z = z

pub record Loose (l : List ℕ) : Type 0 where
  pub size : length l ≡ 32
  pub low : (i : ℕ) → get_or l i 0 < 9223372036854775808

pub record SignedAsks (p v : ℕ) : Type 0 where
  pub modulus : IsModulus p
  pub below : v < p

pub record Signed (p : ℕ) (e : Bool) (v r : ℕ) : Type 0 where
  pub below : r < p
  pub law : (pr : Prime p) → let ρ = reading p pr in ρ.cast r ≡ sign_of ρ.𝓥.K.ops e (ρ.cast v)

pub record LaidAsks (p v : ℕ) (y : List ℕ) (m i : ℕ) (acc : List ℕ) : Type 0 where
  pub modulus : IsModulus p
  pub hv : v < p
  pub hy : Row p y
  pub cy : Cut y m
  pub fits : i + m ≤ 32
  pub loose : Loose acc

pub record Laid (p v : ℕ) (y : List ℕ) (m i : ℕ) (acc o : List ℕ) : Type 0 where
  pub loose : Loose o
  pub law : (pr : Prime p) → let ρ = reading p pr in let k = ρ.𝓥.L.ops in
      row ρ o ≡ k.add (row ρ acc) (k.mul (ρ.𝓥.const (ρ.cast v)) (k.mul (tpow ρ i) (row ρ y)))
  pub above : (k : ℕ) → i + m ≤ k → get_or o k 0 ≡ get_or acc k 0

pub record GatherAsks (p : ℕ) (x : List ℕ) (n : ℕ) (y : List ℕ) (m : ℕ) (acc : List ℕ) : Type 0 where
  pub modulus : IsModulus p
  pub hx : Row p x
  pub hy : Row p y
  pub cx : Cut x n
  pub cy : Cut y m
  pub fits : n + m ≤ 33
  pub loose : Loose acc

pub record Gathered (p : ℕ) (e : Bool) (x : List ℕ) (n : ℕ) (y : List ℕ) (m : ℕ) (acc o : List ℕ) : Type 0 where
  pub loose : Loose o
  pub law : (pr : Prime p) → let ρ = reading p pr in let k = ρ.𝓥.L.ops in
      row ρ o ≡ k.add (row ρ acc) (sign_of k e (k.mul (row ρ x) (row ρ y)))
  pub above : (k : ℕ) → n + m ≤ k + 1 → get_or o k 0 ≡ get_or acc k 0

pub record SettleAsks (q : Modulus) (acc : List ℕ) (t : ℕ) : Type 0 where
  pub modulus : Prepared q
  pub size : length acc ≡ 32
  pub fits : t ≤ 32
  pub below : (i : ℕ) → t ≤ i → get_or acc i 0 < q.p

pub record Settled (p : ℕ) (acc o : List ℕ) : Type 0 where
  pub is_row : Row p o
  pub law : (pr : Prime p) → row (reading p pr) o ≡ row (reading p pr) acc
  pub each : (i : ℕ) → get_or o i 0 ≡ get_or acc i 0 % p
