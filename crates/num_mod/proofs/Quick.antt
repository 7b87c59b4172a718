-- Why one multiplication is enough: with m = N / p and q = x m / N, q p ≤ x < (q + 2) p for every x ≤ N.
use mathlib.Core.Path.{◌≡◌, sym, ap, ◌∙◌}
use Prim.Native.Nat.{ℕ, ◌+◌, ◌*◌, ◌-◌, ◌/◌, ◌%◌, ◌<◌, ◌≤◌}
use native.Mathlib.Nat as M
use native.Mathlib.Omega.{arith}

module _ (N p x : ℕ) (pos : 0 < p) (nos : 0 < N) where
  abbrev m : ℕ
  m = N / p

  abbrev q : ℕ
  q = x * m / N

  pub not_above : q * p ≤ x
  not_above =
      let a : q * N ≤ x * m = M.div-mul-le_self (x * m) N in
      let b : m * p ≤ N = M.div-mul-le_self N p in
      M.le_of_mul-le-mul_right {k = N} (omega (arith, M.mul-le-mul_right p a, M.mul-le-mul_left x b)) nos

  pub nearly : x ≤ N → x < (q + 2) * p
  nearly le =
      let a : N < p * (m + 1) = M.lt-mul-div-succ N pos in
      let b : x * m < N * (q + 1) = M.lt-mul-div-succ (x * m) nos in
      let a' : N ≤ p * (m + 1) = omega arith in
      M.lt_of_mul-lt-mul_right N (omega (arith, M.mul-le-mul_left x a', M.mul-le-mul_right p b, M.mul-le-mul_right p le))

-- what is left is the remainder, or p more
pub left_small : (p q x : ℕ) → q * p ≤ x → x - q * p < p → x - q * p ≡ x % p
left_small p q x l s =
    let d : p * q ≡ q * p = omega arith in
    let e : x - q * p + p * q ≡ x = omega arith in
    sym (ap (λ y. y % p) (sym e) ∙ M.add-mul-mod_self_left (x - q * p) p q ∙ M.mod-eq_of_lt s)

pub left_large : (p q x : ℕ) → q * p ≤ x → p ≤ x - q * p → x < (q + 2) * p → x - q * p - p ≡ x % p
left_large p q x k l s =
    let d : p * (q + 1) ≡ q * p + p = omega arith in
    let w : (q + 2) * p ≡ q * p + p + p = omega arith in
    let e : x - q * p - p + p * (q + 1) ≡ x = omega arith in
    let small : x - q * p - p < p = omega arith in
    sym (ap (λ y. y % p) (sym e) ∙ M.add-mul-mod_self_left (x - q * p - p) p (q + 1) ∙ M.mod-eq_of_lt small)

-- 64 p² · (2^42 / p) fits 64 bits where p is below 2^16
pub fits : (N p x : ℕ) → x < 64 * (p * p) → p ≤ 65535 → x * (N / p) ≤ 4194240 * N
fits N p x b s =
    let c : N / p * p ≤ N = M.div-mul-le_self N p in
    let d : p * (N / p * p) ≤ 65535 * N = M.mul-le-mul s c in
    let e : x ≤ 64 * (p * p) = omega arith in
    omega (arith, M.mul-le-mul_right (N / p) e)

-- a number below 64 p² is at most 2^42 where p is below 2^16
pub within : (p x : ℕ) → x < 64 * (p * p) → p ≤ 65535 → x ≤ 4398046511104
within p x b s = omega (arith, M.mul-le-mul s s)

-- the product of two numbers up to 2^31 is at most 2^62
pub small_mul : (a b : ℕ) → a ≤ 2147483648 → b ≤ 2147483648 → a * b ≤ 4611686018427387904
small_mul a b l h = M.mul-le-mul l h
