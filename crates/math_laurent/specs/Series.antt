-- Power series in s over a commutative ring R, as functions: f stands for f 0 + f 1 s + f 2 s² + .., and two are equal when all coefficients are.
--   tail f      f without its first coefficient, moved down; after n f: without its first n
--   cons a f    a + s f
--   Ser R       the series over R
--   up f        s f; ups n f is s^n f
--   const_s a    the constant a
--   scale_s a f  a f
--   keep n f    the first n coefficients of f, zeros after them
--   mul_s f g    the product, by recursion on the index: (f g)(0) = f(0) g(0), (f g)(n + 1) = f(0) g(n + 1) + (tail f · g)(n)
--   conv f g    the same product by recursion from the right: (f g)(0) = f(0) g(0), (f g)(n + 1) = f(n + 1) g(0) + (f · tail g)(n)
--   sops R      the operations of the ring of series
-- The Laurent series take `conv`, the ring of power series takes `mul_s`, and `conv_mul` in proofs/Series says that the two are one.
-- In proofs/Series: the laws of a ring (`series R`), the product as a sum Σ f(i) g(n − i), and which coefficients a product asks for.
use Rattle.std.specs.Prelude.{ℕ, zero, suc}
use Rattle.math_ring.specs.Ring.{Ops, CRing}

abbrev pub tail : {A : Type 0} → (ℕ → A) → ℕ → A
tail f = λ n. f (suc n)

abbrev pub after : {A : Type 0} → ℕ → (ℕ → A) → ℕ → A
after zero f = f
after (suc n) f = after n (tail f)

unfoldable pub cons : {A : Type 0} → A → (ℕ → A) → ℕ → A
cons a f zero = a
cons a f (suc n) = f n

module _ (R : CRing) where
  open R.ops use {add as ◌+◌, mul as ◌*◌, neg as -◌, 𝟎, 𝟏}

  infixl 60 ◌+◌
  infixl 70 ◌*◌
  infix 80 -◌
  abbrev pub Ser : Type 0
  Ser = ℕ → R.El

  abbrev pub zero_s : Ser
  zero_s = λ n. 𝟎

  abbrev pub up : Ser → Ser
  up f = cons 𝟎 f

  unfoldable pub ups : ℕ → Ser → Ser
  ups zero f = f
  ups (suc n) f = up (ups n f)

  abbrev pub const_s : R.El → Ser
  const_s a = cons a zero_s

  abbrev pub scale_s : R.El → Ser → Ser
  scale_s a f = λ n. a * f n

  unfoldable pub keep : ℕ → Ser → Ser
  keep zero f = zero_s
  keep (suc n) f = cons (f 0) (keep n (tail f))

  unfoldable pub mul_s : Ser → Ser → Ser
  mul_s f g zero = f 0 * g 0
  mul_s f g (suc n) = f 0 * g (suc n) + mul_s (tail f) g n

  unfoldable pub conv : Ser → Ser → Ser
  conv f g zero = f 0 * g 0
  conv f g (suc n) = f (suc n) * g 0 + conv f (tail g) n

  abbrev pub sops : Ops Ser
  sops = record {
    add = λ f g n. f n + g n;
    mul = mul_s;
    neg = λ f n. - f n;
    𝟎 = zero_s;
    𝟏 = const_s 𝟏;
  }
