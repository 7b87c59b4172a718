-- Products into lent rows, by known lengths (`Size` of crate math_rows), over a prime p.
--   reach          Reach: a place past two products
--   mix_in         Mixed: r ± x y, with r left as it was past the product
--   both_in        BothInGives: r ± x y ± z v and its length
--   times_in       TimesInGives: x y (`Product` of crate poly_rows) and its length
--   det_in         DetInGives: x y − z v and its length
use Rattle.std.specs.Prelude.{◌≡◌, Bool, List, ℕ, ◌+◌, ◌≤◌, get_or, replicate}
use Rattle.math_fp.specs.Fp.{Prime}
use Rattle.math_rows.specs.Made.{reading}
use Rattle.math_rows.specs.Row.{Row, Size, row}
use Rattle.poly_rows.specs.Leaf.{Cut, Product}
use Rattle.num_mod.specs.Prepared.{Prepared}
use Rattle.num_mod.specs.declared.Modulus.{Modulus}
use Rattle.poly_sums.specs.Sums.{sign_of}

pub record ReachAsks (a b : ℕ) : Type 0 where
  pub fit_a : a ≤ 33
  pub fit_b : b ≤ 33

pub record Reach (a b r : ℕ) : Type 0 where
  pub fits : r ≤ 32
  pub past_a : a ≤ r + 1
  pub past_b : b ≤ r + 1

pub record MixAsks (q : Modulus) (x : List ℕ) (n : ℕ) (y : List ℕ) (m : ℕ) (r : List ℕ) : Type 0 where
  pub modulus : Prepared q
  pub prime : Prime q.p
  pub hx : Row q.p x
  pub hy : Row q.p y
  pub sx : Size x n
  pub sy : Size y m
  pub fits : n + m ≤ 33
  pub hr : Row q.p r

pub record Mixed (p : ℕ) (e : Bool) (x : List ℕ) (n : ℕ) (y : List ℕ) (m : ℕ) (r o : List ℕ) : Type 0 where
  pub is_row : Row p o
  pub law : (pr : Prime p) → let ρ = reading p pr in let k = ρ.𝓥.L.ops in
      row ρ o ≡ k.add (row ρ r) (sign_of k e (k.mul (row ρ x) (row ρ y)))
  pub above : (i : ℕ) → n + m ≤ i + 1 → get_or o i 0 ≡ get_or r i 0

pub record BothInAsks (q : Modulus) (x : List ℕ) (nx : ℕ) (y : List ℕ) (ny : ℕ) (z : List ℕ) (nz : ℕ) (v : List ℕ) (nv : ℕ) (r : List ℕ) (l : ℕ) : Type 0 where
  pub modulus : Prepared q
  pub prime : Prime q.p
  pub hx : Row q.p x
  pub hy : Row q.p y
  pub hz : Row q.p z
  pub hv : Row q.p v
  pub cx : Cut x nx
  pub cy : Cut y ny
  pub cz : Cut z nz
  pub cv : Cut v nv
  pub left : nx + ny ≤ 33
  pub right : nz + nv ≤ 33
  pub hr : Row q.p r
  pub cr : Cut r l

pub record BothInGives (p : ℕ) (e : Bool) (x y : List ℕ) (f : Bool) (z v r o : List ℕ) (l : ℕ) : Type 0 where
  pub is_row : Row p o
  pub law : (pr : Prime p) → let ρ = reading p pr in let k = ρ.𝓥.L.ops in
      row ρ o ≡ k.add (k.add (row ρ r) (sign_of k e (k.mul (row ρ x) (row ρ y)))) (sign_of k f (k.mul (row ρ z) (row ρ v)))
  pub size : Size o l

pub record TimesInAsks (q : Modulus) (x : List ℕ) (n : ℕ) (y : List ℕ) (m : ℕ) (r : List ℕ) : Type 0 where
  pub modulus : Prepared q
  pub prime : Prime q.p
  pub hx : Row q.p x
  pub hy : Row q.p y
  pub sx : Size x n
  pub sy : Size y m
  pub fits : n + m ≤ 33
  pub blank : r ≡ replicate 32 0

pub record TimesInGives (p : ℕ) (x y o : List ℕ) (l : ℕ) : Type 0 where
  pub product : Product p x y o
  pub size : Size o l

pub record DetInAsks (q : Modulus) (x : List ℕ) (nx : ℕ) (y : List ℕ) (ny : ℕ) (z : List ℕ) (nz : ℕ) (v : List ℕ) (nv : ℕ) (r : List ℕ) : Type 0 where
  pub modulus : Prepared q
  pub prime : Prime q.p
  pub hx : Row q.p x
  pub hy : Row q.p y
  pub hz : Row q.p z
  pub hv : Row q.p v
  pub sx : Size x nx
  pub sy : Size y ny
  pub sz : Size z nz
  pub sv : Size v nv
  pub left : nx + ny ≤ 33
  pub right : nz + nv ≤ 33
  pub blank : r ≡ replicate 32 0

pub record DetInGives (p : ℕ) (x y z v o : List ℕ) (l : ℕ) : Type 0 where
  pub is_row : Row p o
  pub law : (pr : Prime p) → let ρ = reading p pr in let k = ρ.𝓥.L.ops in
      row ρ o ≡ k.add (k.mul (row ρ x) (row ρ y)) (k.neg (k.mul (row ρ z) (row ρ v)))
  pub size : Size o l
