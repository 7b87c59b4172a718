-- What follows from the laws of a commutative ring: cancelling, signs, zero, inverses, numerals.
use mathlib.Core.Path.{◌≡◌, sym, ap, ap₂, ◌∙◌}
use Prim.Native.Nat.{ℕ, zero, suc}
use Prim.Native.Nat as N
use native.Mathlib.Nat.{zero-add, suc-add, zero-mul, suc-mul}
use Rattle.math_ring.specs.Ring.{CRing, nat}

module _ (R : CRing) where
  open R.ops use {add as ◌+◌, mul as ◌*◌, neg as -◌, 𝟎, 𝟏}
  open R.laws use {add_assoc, add_comm, add-zero, add_neg, mul_assoc, mul_comm, mul-one, mul-add}

  infixl 60 ◌+◌
  infixl 70 ◌*◌
  infix 80 -◌
  pub zero_add' : (a : R.El) → 𝟎 + a ≡ a
  zero_add' a = add_comm 𝟎 a ∙ add-zero a

  pub one-mul : (a : R.El) → 𝟏 * a ≡ a
  one-mul a = mul_comm 𝟏 a ∙ mul-one a

  pub add-mul : (a b c : R.El) → (a + b) * c ≡ a * c + b * c
  add-mul a b c = mul_comm (a + b) c ∙ mul-add c a b ∙ ap₂ ◌+◌ (mul_comm c a) (mul_comm c b)

  pub add_left_comm : (a b c : R.El) → a + (b + c) ≡ b + (a + c)
  add_left_comm a b c = sym (add_assoc a b c) ∙ ap (λ t. t + c) (add_comm a b) ∙ add_assoc b a c

  pub mul_left_comm : (a b c : R.El) → a * (b * c) ≡ b * (a * c)
  mul_left_comm a b c = sym (mul_assoc a b c) ∙ ap (λ t. t * c) (mul_comm a b) ∙ mul_assoc b a c

  pub swap4 : (p q r s : R.El) → (p + q) + (r + s) ≡ (p + r) + (q + s)
  swap4 p q r s = add_assoc p q (r + s) ∙ ap (λ t. p + t) (add_left_comm q r s) ∙ sym (add_assoc p r (q + s))

  pub neg_add_self : (a : R.El) → - a + a ≡ 𝟎
  neg_add_self a = add_comm (- a) a ∙ add_neg a

  -- a + x = 0 settles x
  pub neg_unique : (a x : R.El) → a + x ≡ 𝟎 → x ≡ - a
  neg_unique a x h =
      sym (zero_add' x)
      ∙ ap (λ t. t + x) (sym (neg_add_self a))
      ∙ add_assoc (- a) a x
      ∙ ap (λ t. - a + t) h
      ∙ add-zero (- a)

  pub neg_neg : (a : R.El) → - (- a) ≡ a
  neg_neg a = sym (neg_unique (- a) a (neg_add_self a))

  pub neg_zero : - 𝟎 ≡ 𝟎
  neg_zero = sym (neg_unique 𝟎 𝟎 (add-zero 𝟎))

  pub neg_add : (a b : R.El) → - (a + b) ≡ - a + - b
  neg_add a b = sym (neg_unique (a + b) (- a + - b) (swap4 a b (- a) (- b) ∙ ap₂ ◌+◌ (add_neg a) (add_neg b) ∙ add-zero 𝟎))

  pub add_cancel : (a b c : R.El) → a + c ≡ b + c → a ≡ b
  add_cancel a b c h =
      sym (add-zero a)
      ∙ ap (λ t. a + t) (sym (add_neg c))
      ∙ sym (add_assoc a c (- c))
      ∙ ap (λ t. t + - c) h
      ∙ add_assoc b c (- c)
      ∙ ap (λ t. b + t) (add_neg c)
      ∙ add-zero b

  pub mul-zero : (a : R.El) → a * 𝟎 ≡ 𝟎
  mul-zero a = add_cancel (a * 𝟎) 𝟎 (a * 𝟎) (sym (mul-add a 𝟎 𝟎) ∙ ap (λ t. a * t) (add-zero 𝟎) ∙ sym (zero_add' (a * 𝟎)))

  pub zero_mul' : (a : R.El) → 𝟎 * a ≡ 𝟎
  zero_mul' a = mul_comm 𝟎 a ∙ mul-zero a

  pub mul_neg : (a b : R.El) → a * - b ≡ - (a * b)
  mul_neg a b = neg_unique (a * b) (a * - b) (sym (mul-add a b (- b)) ∙ ap (λ t. a * t) (add_neg b) ∙ mul-zero a)

  pub neg_mul : (a b : R.El) → - a * b ≡ - (a * b)
  neg_mul a b = mul_comm (- a) b ∙ mul_neg b a ∙ ap (λ t. - t) (mul_comm b a)

  -- a - b = 0 gives a = b
  pub eq_of_sub : (a b : R.El) → a + - b ≡ 𝟎 → a ≡ b
  eq_of_sub a b h = add_cancel a b (- b) (h ∙ sym (add_neg b))

  -- k (k' b) = b where k k' = 1
  pub undo : (k k' b : R.El) → k * k' ≡ 𝟏 → k * (k' * b) ≡ b
  undo k k' b e = sym (mul_assoc k k' b) ∙ ap (λ t. t * b) e ∙ one-mul b

  -- k b z' = b z where k k' = 1 and z' = k' z
  pub pulled : (k k' b z z' : R.El) → k * k' ≡ 𝟏 → k' * z ≡ z' → k * b * z' ≡ b * z
  pulled k k' b z z' e f = ap (λ t. k * b * t) (sym f) ∙ mul_assoc k b (k' * z) ∙ ap (λ t. k * t) (mul_left_comm b k' z) ∙ undo k k' (b * z) e

  -- numerals
  pub nat_add : (m n : ℕ) → nat R.ops (N.◌+◌ m n) ≡ nat R.ops m + nat R.ops n
  unfolding nat
  nat_add zero n = ap (nat R.ops) (zero-add n) ∙ sym (zero_add' (nat R.ops n))
  nat_add (suc m) n =
      ap (nat R.ops) (suc-add m n)
      ∙ ap (λ t. 𝟏 + t) (nat_add m n)
      ∙ sym (add_assoc 𝟏 (nat R.ops m) (nat R.ops n))

  pub nat_mul : (m n : ℕ) → nat R.ops (N.◌*◌ m n) ≡ nat R.ops m * nat R.ops n
  unfolding nat
  nat_mul zero n = ap (nat R.ops) (zero-mul n) ∙ sym (zero_mul' (nat R.ops n))
  nat_mul (suc m) n =
      ap (nat R.ops) (suc-mul m n)
      ∙ nat_add (N.◌*◌ m n) n
      ∙ ap₂ ◌+◌ (nat_mul m n) (sym (one-mul (nat R.ops n)))
      ∙ add_comm (nat R.ops m * nat R.ops n) (𝟏 * nat R.ops n)
      ∙ sym (add-mul 𝟏 (nat R.ops m) (nat R.ops n))

  pub nat_one : nat R.ops 1 ≡ 𝟏
  unfolding nat
  nat_one = add-zero 𝟏
