-- How numbers are read: a ring of series `𝓥` over a field of p elements, with the class `cast n` of a number. This record is
-- all that the code's proofs know of the field and of the series: none of them opens F_p or the Laurent series.
use Rattle.std.specs.Prelude.{◌≡◌, ℕ, ◌+◌, ◌*◌, ◌%◌, ◌<◌}
use Rattle.math_valued.specs.Val.{Valued}

pub record Reading (p : ℕ) : Type 1 where
  pub 𝓥 : Valued
  pub pos : 0 < p
  pub cast : ℕ → 𝓥.K.El
  pub cast_zero : cast 0 ≡ 𝓥.K.ops.𝟎
  pub cast_one : cast 1 ≡ 𝓥.K.ops.𝟏
  pub cast_add : (a b : ℕ) → cast (a + b) ≡ 𝓥.K.ops.add (cast a) (cast b)
  pub cast_mul : (a b : ℕ) → cast (a * b) ≡ 𝓥.K.ops.mul (cast a) (cast b)
  pub cast_mod : (a : ℕ) → cast (a % p) ≡ cast a
  pub cast_small : (a : ℕ) → a < p → cast a ≡ 𝓥.K.ops.𝟎 → a ≡ 0
  -- every element of the field is the class of a number below p
  pub cast_onto : (x : 𝓥.K.El) → (n : ℕ) × (n < p) × (cast n ≡ x)
  pub const_add : (a b : 𝓥.K.El) → 𝓥.const (𝓥.K.ops.add a b) ≡ 𝓥.L.ops.add (𝓥.const a) (𝓥.const b)
  pub const_mul : (a b : 𝓥.K.El) → 𝓥.const (𝓥.K.ops.mul a b) ≡ 𝓥.L.ops.mul (𝓥.const a) (𝓥.const b)
  pub const_one : 𝓥.const 𝓥.K.ops.𝟏 ≡ 𝓥.L.ops.𝟏
