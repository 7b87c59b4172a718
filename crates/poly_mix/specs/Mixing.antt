-- What the sums of products of long polynomials ask and hand out; lists and p as in crate poly_long.
--   sum_at   SumAt   the first n terms of coefficient k of x y
--   mix      Mixed   the low coefficients of g x + h y
use Rattle.std.specs.Prelude.{◌≡◌, List, ℕ, ◌*◌, ◌<◌, ◌≤◌, length, get_or}
use Rattle.math_fp.specs.Fp.{Prime}
use Rattle.math_rows.specs.Made.{reading}
use Rattle.math_rows.specs.Row.{row}
use Rattle.math_rows.specs.Sum.{sum_to, term_at}
use Rattle.poly_long.specs.Long.{Low, Storable}

pub record SumAtAsks (x : List ℕ) (n k : ℕ) : Type 0 where
  pub inside : n ≤ length x
  pub most : n ≤ 65536
  pub near : k ≤ 131072

pub record SumAt (x : List ℕ) (n : ℕ) (y : List ℕ) (k r : ℕ) : Type 0 where
  pub value : r ≡ sum_to (term_at x y k) n
  pub small : r ≤ n * 4294836225

pub record MixAsks (p : ℕ) (g h d : List ℕ) : Type 0 where
  pub modulus : Storable p
  pub g_most : length g ≤ 65536
  pub h_most : length h ≤ 65536
  pub d_most : length d ≤ 65536

pub record Mixed (p : ℕ) (g x h y d d' : List ℕ) : Type 0 where
  pub each : (i : ℕ) → get_or d' i 0 < p
  pub size : length d' ≡ length d
  pub law : (pr : Prime p) → let ρ = reading p pr in let o = ρ.𝓥.L.ops in Low ρ (length d) (o.add (o.mul (row ρ g) (row ρ x)) (o.mul (row ρ h) (row ρ y))) d'
