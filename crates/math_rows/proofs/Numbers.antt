-- Products of numbers, in the field of constants.
--   cast_product   the remainder of a product has the product of the classes
--   cast_square    a b², and cast_cube the cube of a number
--   cast_not       a number below p that is not 0 has a class that is not 0
--   product_some   p is prime: a product of two such numbers is not 0 mod p
use mathlib.Core.Path.{◌≡◌, refl, sym, ap, ◌∙◌}
use mathlib.Core.Logic.{◌≢◌}
use Prim.Native.Nat.{ℕ, zero, suc, ◌<◌, ◌%◌}
use Prim.Native.Nat as N
use native.Mathlib.Omega.{arith}
use Rattle.math_valued.proofs.Degree.{k_domain}
use Rattle.math_rows.specs.Reading.{Reading}

module _ {p : ℕ} (ρ : Reading p) where
  open ρ use {𝓥, cast}
  open 𝓥 use {K}
  open K.ops use {mul as ◌*◌, 𝟎}

  infixl 70 ◌*◌
  pub cast_product : (a b : ℕ) → cast (N.◌*◌ a b % p) ≡ cast a * cast b
  cast_product a b = ρ.cast_mod (N.◌*◌ a b) ∙ ρ.cast_mul a b

  pub cast_square : (a b : ℕ) → cast (N.◌*◌ a (N.◌*◌ b b)) ≡ cast a * (cast b * cast b)
  cast_square a b = ρ.cast_mul a (N.◌*◌ b b) ∙ ap (λ z. cast a * z) (ρ.cast_mul b b)

  pub cast_cube : (a : ℕ) → cast (N.◌*◌ (N.◌*◌ a a) a) ≡ cast a * cast a * cast a
  cast_cube a = ρ.cast_mul (N.◌*◌ a a) a ∙ ap (λ z. z * cast a) (ρ.cast_mul a a)

  pub cast_not : (a : ℕ) → 0 < a → a < p → cast a ≢ 𝟎
  cast_not a h l e = let z : a ≡ 0 = ρ.cast_small a l e in absurd (omega arith)

  pub product_some : (a b : ℕ) → 0 < a → a < p → 0 < b → b < p → 0 < N.◌*◌ a b % p
  product_some a b ha la hb lb = go (N.◌*◌ a b % p) refl
    where
      go : (v : ℕ) → N.◌*◌ a b % p ≡ v → 0 < v
      go zero e = absurd (k_domain 𝓥 (cast a) (cast b) (cast_not a ha la) (cast_not b hb lb) (sym (cast_product a b) ∙ ap cast e ∙ ρ.cast_zero))
      go (suc v) e = omega arith
